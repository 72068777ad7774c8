use native.Mathlib.Numerals.{add-one}
use lib.Arith.{sub_dec}
use native.Mathlib.Omega.{arith}
use Rattle.records.specs.Layout.{borrows_laid}
use Rattle.emit.proofs.Laid.{walk_none, walk_more, walk_all_lem, grown_none, grown_room, grown_more, grown_all, joined_all}
use Rattle.borrows.specs.Clone.{uuids_of}
use Rattle.unite_groups.proofs.Lent.{lent_each}
use Rattle.unite_groups.proofs.group_borrows_laid.put_groups.Goals as goal

pub loop-k-init : goal.loop-k-init
unfolding borrows_laid
loop-k-init c = let q = lent_each c.args.groups.now c.args.work.now c.args.pool.now (uuids_of c.args.fresh.now) c.args.n in (walk_none, grown_none (rw q.0 at c.requires.n_in_bounds_2), grown_none (rw q.0 at c.requires.n_in_bounds_3), grown_none (rw q.0 at c.requires.n_in_bounds_4))

pub put_group_at-to-requires : goal.put_group_at-to-requires
unfolding borrows_laid
put_group_at-to-requires c = let i = c.loop-k.invariant in let h = c.loop-k-test.true in record { i_in_bounds = omega (arith, c.requires.n_in_bounds); i_in_bounds_2 = grown_room i.0 i.1 h; i_in_bounds_3 = grown_room i.0 i.2 h; i_in_bounds_4 = grown_room i.0 i.3 h }

pub loop-k-smaller : goal.loop-k-smaller
unfolding borrows_laid
loop-k-smaller c = rw (add-one c.loop-k.k) (sub_dec c.args.n c.loop-k.k c.loop-k-test.true)

pub loop-k-preserved : goal.loop-k-preserved
unfolding borrows_laid
loop-k-preserved c = let i = c.loop-k.invariant in let h = c.loop-k-test.true in (walk_more i.0 h c.put_group_at-to.ensures.value, grown_more i.0 i.1 h c.put_group_at-to.ensures.out_borrows_after, grown_more i.0 i.2 h c.put_group_at-to.ensures.out_ids_after, grown_more i.0 i.3 h c.put_group_at-to.ensures.out_pool_after)

pub shape_of-out_borrows : goal.shape_of-out_borrows
unfolding borrows_laid
shape_of-out_borrows c = c.loop-k.invariant.1.long

pub shape_of-out_ids : goal.shape_of-out_ids
unfolding borrows_laid
shape_of-out_ids c = c.loop-k.invariant.2.long

pub shape_of-out_pool : goal.shape_of-out_pool
unfolding borrows_laid
shape_of-out_pool c = c.loop-k.invariant.3.long

pub returns : goal.returns
unfolding borrows_laid
returns c = let q = lent_each c.args.groups.now c.args.work.now c.args.pool.now (uuids_of c.args.fresh.now) c.args.n in let i = c.loop-k.invariant in let h = c.loop-k-test.false in rw (q.0, q.1) (record { value = walk_all_lem i.0 h; out_borrows_after = grown_all i.0 i.1 h; out_ids_after = joined_all i.0 i.2 h; out_pool_after = joined_all i.0 i.3 h })
