use Prim.Native.Nat.{◌/◌}
use native.Mathlib.Omega.{arith}
use lib.ListN.{length}
use Rattle.ids.specs.Names.{ids_of}
use Rattle.tables.proofs.Windows.{held_in}
use Rattle.records.specs.Layout.{borrows_laid}
use Rattle.emit.proofs.Laid.{walk_none, walk_more, walk_all_lem, grown_none, grown_room, grown_more, grown_all, joined_all}
use Rattle.prune.proofs.Kept.{kept_fill, kept_laid}
use Rattle.prune.proofs.prune_external_sst_ids.Goals as goal

pub loop-k-init : goal.loop-k-init
unfolding borrows_laid
loop-k-init c = let a = c.args in let f = kept_fill (ids_of a.used.now) a.borrows.now a.ids.now a.pool.now a.w _ c.held-n.ensures in (walk_none, grown_none (rw f c.requires.w_in_bounds), grown_none (rw f c.requires.w_in_bounds_2), grown_none (rw f c.requires.w_in_bounds_3))

pub overflow_add-w : goal.overflow_add-w
unfolding borrows_laid
overflow_add-w c = omega (arith, held_in c.args.w (length c.args.borrows.now / 9) c.loop-k.k (omega arith))

pub put_kept_at-to-requires : goal.put_kept_at-to-requires
unfolding borrows_laid
put_kept_at-to-requires c = let i = c.loop-k.invariant in let h = c.loop-k-test.true in record { i_in_bounds = held_in c.args.w (length c.args.borrows.now / 9) c.loop-k.k (omega arith); i_in_bounds_2 = grown_room i.0 i.1 h; i_in_bounds_3 = grown_room i.0 i.2 h; i_in_bounds_4 = grown_room i.0 i.3 h }

pub loop-k-preserved : goal.loop-k-preserved
unfolding borrows_laid
loop-k-preserved c = let i = c.loop-k.invariant in let h = c.loop-k-test.true in (walk_more i.0 h c.put_kept_at-to.ensures.value, grown_more i.0 i.1 h c.put_kept_at-to.ensures.out_borrows_after, grown_more i.0 i.2 h c.put_kept_at-to.ensures.out_ids_after, grown_more i.0 i.3 h c.put_kept_at-to.ensures.out_pool_after)

pub returns : goal.returns
unfolding borrows_laid
returns c = let a = c.args in let i = c.loop-k.invariant in let h = c.loop-k-test.false in let whole = kept_laid (ids_of a.used.now) a.borrows.now a.ids.now a.pool.now a.w _ c.held-n.ensures a.c _ _ _ _ _ _ _ (walk_all_lem i.0 h) (grown_all i.0 i.1 h) (joined_all i.0 i.2 h) (joined_all i.0 i.3 h) in record { value = whole.0; out_borrows_after = whole.1.0; out_ids_after = whole.1.1.0; out_pool_after = whole.1.1.1 }
