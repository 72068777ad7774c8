-- An answer that equals a definition's value is a single one.
use mathlib.Core.Path.{◌≡◌, sym, ◌∙◌}

pub single : {A : Type 0} {x y v : A} → x ≡ v → y ≡ v → x ≡ y
single p q = p ∙ sym q
