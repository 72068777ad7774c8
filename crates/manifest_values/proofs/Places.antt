-- A bin's bytes are where its place says; a kind that is not 0. Assumes nothing.
use Rattle.std.specs.Prelude.{Ok}
use mathlib.Core.Path.{◌≡◌, refl}
use mathlib.Core.List.{List}
use Prim.Native.Nat.{ℕ, zero, suc, ◌+◌, ◌≤◌}
use native.Mathlib.Omega.{arith}
use borrow.Author.Tests.{le-leb}
use lib.ListN.{length, take, drop}
use Rattle.keys.specs.Pool.{part_of}
use Rattle.keys.specs.declared.Bound.TheVariants.{Excluded}
use Rattle.records.specs.declared.Place.{Place}
use Rattle.msgpack.specs.Read.{bin_at}
use Rattle.msgpack.proofs.Told.{bin_within}
use Rattle.manifest_values.specs.Rows.{bound_by}

pub bound_by_rest : (kind : ℕ) (k : Place) → (kind ≡ 0 → ⊥) → Excluded k.at k.len ≡ bound_by kind k
bound_by_rest zero k h = absurd (h refl)
bound_by_rest (suc n) k h = refl

module _ (s : List ℕ) (at f n p : ℕ) (e : bin_at s at ≡ Ok (f, n, p)) where
  pub bin_in : f + n ≤ length s
  bin_in = let h = bin_within s at f n p e in omega arith

  pub bin_part : part_of s f n ≡ take n (drop f s)
  unfolding part_of
  bin_part = rw (le-leb (f + n) (length s) bin_in)
