use Prim.Native.Nat.{◌/◌}
use native.Mathlib.Omega.{arith}
use lib.ListN.{length}
use Rattle.tables.proofs.Windows.{held_in}
use Rattle.records.specs.Layout.{borrows_laid}
use Rattle.emit.proofs.Laid.{walk_none, walk_more, walk_all_lem, grown_none, grown_room, grown_more, grown_all, joined_all}
use Rattle.borrows.specs.Clone.{uuids_of}
use Rattle.borrows.proofs.Renewing.{renewed_each}
use Rattle.borrows.proofs.clone_lenders.put_renewed.Goals as goal

pub loop-k-init : goal.loop-k-init
unfolding borrows_laid
loop-k-init c = let a = c.args in let q = renewed_each a.borrows.now a.ids.now a.pool.now a.w (uuids_of a.fresh.now) _ c.held-n.ensures in (walk_none, grown_none (rw q at c.requires.w_in_bounds), grown_none (rw q at c.requires.w_in_bounds_2), grown_none (rw q at c.requires.w_in_bounds_3))

pub overflow_add-first : goal.overflow_add-first
overflow_add-first c = let a = c.args in omega (arith, held_in a.w (length a.borrows.now / 9) c.loop-k.k (omega arith))

pub put_renewed_at-to-requires : goal.put_renewed_at-to-requires
put_renewed_at-to-requires c = let a = c.args in let i = c.loop-k.invariant in let h = c.loop-k-test.true in let e = c.held-n.ensures in record { i_in_bounds = held_in a.w (length a.borrows.now / 9) c.loop-k.k (omega arith); n_in_bounds = omega (arith, c.requires.borrows_in_bounds); n_in_bounds_2 = grown_room i.0 i.1 h; n_in_bounds_3 = grown_room i.0 i.2 h; n_in_bounds_4 = grown_room i.0 i.3 h }

pub loop-k-preserved : goal.loop-k-preserved
loop-k-preserved c = let i = c.loop-k.invariant in let h = c.loop-k-test.true in (walk_more i.0 h c.put_renewed_at-to.ensures.value, grown_more i.0 i.1 h c.put_renewed_at-to.ensures.out_borrows_after, grown_more i.0 i.2 h c.put_renewed_at-to.ensures.out_ids_after, grown_more i.0 i.3 h c.put_renewed_at-to.ensures.out_pool_after)

pub shape_of-out_borrows : goal.shape_of-out_borrows
shape_of-out_borrows c = c.loop-k.invariant.1.long

pub shape_of-out_ids : goal.shape_of-out_ids
shape_of-out_ids c = c.loop-k.invariant.2.long

pub shape_of-out_pool : goal.shape_of-out_pool
shape_of-out_pool c = c.loop-k.invariant.3.long

pub returns : goal.returns
unfolding borrows_laid
returns c = let a = c.args in let q = renewed_each a.borrows.now a.ids.now a.pool.now a.w (uuids_of a.fresh.now) _ c.held-n.ensures in let i = c.loop-k.invariant in let h = c.loop-k-test.false in rw q (record { value = walk_all_lem i.0 h; out_borrows_after = grown_all i.0 i.1 h; out_ids_after = joined_all i.0 i.2 h; out_pool_after = joined_all i.0 i.3 h })
