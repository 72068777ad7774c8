-- A choice by the outcome of a test.
use mathlib.Core.Bool.{Bool, true, false}
use mathlib.Core.Path.{◌≡◌, sym, ◌∙◌}
use Rattle.keys.specs.Pick.{pick}

module _ (A : Type 0) (r b : Bool) (z x y : A) (e : r ≡ b) where
  pub pick_here : r ≡ true → z ≡ x → z ≡ pick b x y
  pick_here h q = rw (sym e ∙ h) q

  pub pick_later : r ≡ false → z ≡ y → z ≡ pick b x y
  pick_later h q = rw (sym e ∙ h) q

pub ruleset picks = (pick_here, pick_later)
