use Prim.Native.Nat.{◌/◌}
use native.Mathlib.Omega.{arith}
use lib.ListN.{length}
use Rattle.tables.proofs.Windows.{held_in}
use Rattle.records.specs.Layout.{segments_laid, segments_runs_laid, segments_views_laid}
use Rattle.emit.proofs.Laid.{walk_none, walk_more, walk_all_lem, grown_none, grown_room, grown_more, grown_all, joined_all}
use Rattle.project_ranges.specs.Args.{config_in}
use Rattle.project_lay.proofs.Adds.{left_fill}
use Rattle.project_lay.proofs.Puts.{left_laid}
use Rattle.project_lay.proofs.left_laid.put_segments_after.Goals as goal

pub loop-k-init : goal.loop-k-init
unfolding segments_laid segments_runs_laid segments_views_laid
loop-k-init c = let a = c.args in let f = (left_fill a.segments.now a.runs.now a.views.now a.pool.now a.w (config_in a.pool.now a.config a.own.now) _ c.held-n.ensures) in (walk_none, grown_none (rw f c.requires.w_in_bounds), grown_none (rw f c.requires.w_in_bounds_2), grown_none (rw f c.requires.w_in_bounds_3), grown_none (rw f c.requires.w_in_bounds_4))

pub overflow_add-w : goal.overflow_add-w
unfolding segments_laid segments_runs_laid segments_views_laid
overflow_add-w c = omega (arith, held_in c.args.w (length c.args.segments.now / 12) c.loop-k.k (omega arith))

pub put_segment_at-to-requires : goal.put_segment_at-to-requires
unfolding segments_laid segments_runs_laid segments_views_laid
put_segment_at-to-requires c = let i = c.loop-k.invariant in let h = c.loop-k-test.true in record { i_in_bounds = held_in c.args.w (length c.args.segments.now / 12) c.loop-k.k (omega arith); i_in_bounds_2 = grown_room i.0 i.1 h; i_in_bounds_3 = grown_room i.0 i.2 h; i_in_bounds_4 = grown_room i.0 i.3 h; i_in_bounds_5 = grown_room i.0 i.4 h }

pub loop-k-preserved : goal.loop-k-preserved
unfolding segments_laid segments_runs_laid segments_views_laid
loop-k-preserved c = let i = c.loop-k.invariant in let h = c.loop-k-test.true in (walk_more i.0 h c.put_segment_at-to.ensures.value, grown_more i.0 i.1 h c.put_segment_at-to.ensures.out_segments_after, grown_more i.0 i.2 h c.put_segment_at-to.ensures.out_runs_after, grown_more i.0 i.3 h c.put_segment_at-to.ensures.out_views_after, grown_more i.0 i.4 h c.put_segment_at-to.ensures.out_pool_after)

pub shape_of-out_segments : goal.shape_of-out_segments
unfolding segments_laid segments_runs_laid segments_views_laid
shape_of-out_segments c = c.loop-k.invariant.1.long

pub shape_of-out_runs : goal.shape_of-out_runs
unfolding segments_laid segments_runs_laid segments_views_laid
shape_of-out_runs c = c.loop-k.invariant.2.long

pub shape_of-out_views : goal.shape_of-out_views
unfolding segments_laid segments_runs_laid segments_views_laid
shape_of-out_views c = c.loop-k.invariant.3.long

pub shape_of-out_pool : goal.shape_of-out_pool
unfolding segments_laid segments_runs_laid segments_views_laid
shape_of-out_pool c = c.loop-k.invariant.4.long

pub returns : goal.returns
unfolding segments_laid segments_runs_laid segments_views_laid
returns c = let a = c.args in let i = c.loop-k.invariant in let h = c.loop-k-test.false in let whole = left_laid a.segments.now a.runs.now a.views.now a.pool.now a.w (config_in a.pool.now a.config a.own.now) _ c.held-n.ensures a.c _ _ _ _ _ _ _ _ _ (walk_all_lem i.0 h) (grown_all i.0 i.1 h) (grown_all i.0 i.2 h) (grown_all i.0 i.3 h) (joined_all i.0 i.4 h) in record { value = whole.0; out_segments_after = whole.1.0; out_runs_after = whole.1.1.0; out_views_after = whole.1.1.1.0; out_pool_after = whole.1.1.1.1 }
