-- A range argument by its kinds. Assumes nothing.
use Rattle.std.specs.Prelude.{Err}
use Prim.Native.Nat.{ℕ}
use mathlib.Core.Path.{◌≡◌}
use mathlib.Core.Bool.{true, false}
use mathlib.Core.List.{List}
use Rattle.records.specs.Decode.{Lent}
use Rattle.records.specs.Limits.{limits01}
use Rattle.records.specs.declared.ManifestRow.{ManifestRow}
use Rattle.records.specs.declared.Refusal.TheVariants.{OverLimit}
use Rattle.segments.specs.Select.{selected_of}
use Rattle.exports_forms.specs.Arguments.{range_arg, odd_of}
use Rattle.exports_tables.specs.Calls.{select_in}

module _ (r args : List ℕ) (l : Lent) (m : ManifestRow) where
  pub select_odd : odd_of r ≡ true → Err OverLimit ≡ select_in r args l m
  unfolding select_in
  select_odd h = rw h

  pub select_even : odd_of r ≡ false → selected_of limits01 l m args (range_arg r) ≡ select_in r args l m
  unfolding select_in
  select_even h = rw h
