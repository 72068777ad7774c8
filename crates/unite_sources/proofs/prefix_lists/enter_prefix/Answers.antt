use Prim.Native.Nat.{ℕ}
use mathlib.Core.Path.{refl, ap, ◌∙◌}
use mathlib.Core.List.{List}
use native.Mathlib.Omega.{arith}
use Rattle.merge.specs.Merge.{among}
use Rattle.unite_sources.specs.Rows.{places_in}
use Rattle.unite_sources.proofs.Listing.{spot_in, prefix_held, prefix_new, prefix_long}
use Rattle.unite_sources.proofs.prefix_lists.enter_prefix.Goals as goal

pub returns-then-is_held : goal.returns-then-is_held
returns-then-is_held c = record { result_after = prefix_held _ _ _ _ _ c.place_of-i.ensures _ c.is_held.ensures c.if-is_held.true ∙ ap (λ (z : List ℕ). among z (places_in c.args.list.now c.args.pool.now c.args.n)) c.part-bytes.ensures; upper_bound = omega arith; list_len_unchanged = refl }

pub put_place-requires : goal.put_place-requires
put_place-requires c = record { n_in_bounds = omega arith; i_le_n = spot_in _ _ _ _ _ c.place_of-i.ensures _ c.is_held.ensures }

pub returns : goal.returns
returns c = record { result_after = prefix_new _ _ _ _ _ c.place_of-i.ensures _ c.is_held.ensures _ _ _ c.part-bytes.ensures c.requires c.if-is_held.false c.put_place.ensures ∙ ap (λ (z : List ℕ). among z (places_in c.args.list.now c.args.pool.now c.args.n)) c.part-bytes.ensures; upper_bound = omega arith; list_len_unchanged = prefix_long _ _ _ _ _ c.place_of-i.ensures _ c.is_held.ensures _ _ _ c.part-bytes.ensures c.requires c.if-is_held.false c.put_place.ensures }
