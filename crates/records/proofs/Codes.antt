-- What a code above the named ones reads as. Assumes nothing.
use mathlib.Core.Path.{◌≡◌, refl}
use Prim.Native.Nat.{ℕ, zero, suc}
use Rattle.records.specs.Row.{optional}

pub optional_rest : {A B : Type 0} (none : B) (some : A → B) (k : ℕ) (x y : A) → (k ≡ 0 → ⊥) → x ≡ y → some x ≡ optional none some k y
optional_rest none some zero x y p e = absurd (p refl)
optional_rest none some (suc k) x y p e = rw e
