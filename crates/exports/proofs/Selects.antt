-- A range argument by its kinds. Assumes nothing.
use Rattle.std.specs.Prelude.{Err}
use Prim.Native.Nat.{ℕ}
use mathlib.Core.Path.{◌≡◌}
use mathlib.Core.Bool.{true, false}
use mathlib.Core.List.{List}
use Rattle.records.specs.Decode.{Lent}
use Rattle.records.specs.Limits.{limits01}
use Rattle.records.specs.declared.Refusal.TheVariants.{OverLimit}
use Rattle.encoded.specs.Select.{select_of}
use Rattle.exports_forms.specs.Arguments.{range_arg, odd_of}
use Rattle.exports.specs.Calls.{select_by}

module _ (r s args : List ℕ) (w : Lent) where
  pub select_odd : odd_of r ≡ true → Err OverLimit ≡ select_by r s args w
  unfolding select_by
  select_odd h = rw h

  pub select_even : odd_of r ≡ false → select_of limits01 s args (range_arg r) w ≡ select_by r s args w
  unfolding select_by
  select_even h = rw h
