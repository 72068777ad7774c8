-- A projection's arguments by their flags. Assumes nothing.
use Rattle.std.specs.Prelude.{None, Some}
use Prim.Native.Nat.{ℕ}
use mathlib.Core.Path.{◌≡◌}
use mathlib.Core.Bool.{Bool}
use mathlib.Core.List.{List}
use borrow.Author.Tests.{eq-eqb, ne_eqb}
use Rattle.keys.specs.declared.Range.{Range}
use Rattle.records.specs.Row.{at}
use Rattle.exports_forms.specs.Arguments.{range_arg, odd_of, is_on, global_arg, filter_arg, odd_global}

module _ (flag : ℕ) where
  pub global_unset : (r : List ℕ) → flag ≡ 0 → None ≡ global_arg flag r
  global_unset r h = rw (eq-eqb flag 0 h)

  pub global_set : (r : List ℕ) (a : Range) → (flag ≡ 0 → ⊥) → a ≡ range_arg r → Some a ≡ global_arg flag r
  global_set r a h e = rw (ne_eqb flag 0 h, e)

  pub filter_all : (keeps mask : ℕ) → flag ≡ 0 → None ≡ filter_arg flag keeps mask
  filter_all keeps mask h = rw (eq-eqb flag 0 h)

  pub filter_only : (keeps mask : ℕ) → (flag ≡ 0 → ⊥) → Some (is_on keeps, mask) ≡ filter_arg flag keeps mask
  filter_only keeps mask h = rw (ne_eqb flag 0 h)

module _ (f r : List ℕ) where
  pub odd_some : (b : Bool) → (at f 0 ≡ 0 → ⊥) → b ≡ odd_of r → b ≡ odd_global f r
  odd_some b h e = rw (ne_eqb (at f 0) 0 h) e
