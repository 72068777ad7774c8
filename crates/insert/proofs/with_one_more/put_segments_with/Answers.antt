use native.Mathlib.Omega.{arith}
use Prim.Native.Nat.{◌/◌}
use lib.ListN.{length}
use Rattle.records.specs.Layout.{segments_laid, segments_runs_laid, segments_views_laid}
use Rattle.records.proofs.Laid.{segments, runs, views, pool}
use Rattle.records.proofs.Columns.{segment_rows, segment_runs, segment_views}
use Rattle.segments.specs.Insert.{new_segment}
use Rattle.insert.proofs.Parts.{back_first, front_room, new_room, back_room, with_past, with_laid, with_bytes}
use Rattle.insert.proofs.with_one_more.put_segments_with.Goals as goal

pub overflow_add-back : goal.overflow_add-back
overflow_add-back c = let a = c.args in omega (arith, back_first a.w (length a.segments.now / 12) a.i _ c.held-n.ensures (omega (arith, c.requires.i_bound, c.held-n.ensures)) 18446744073709551615 (omega arith) (omega arith))

pub overflow_sub-back : goal.overflow_sub-back
overflow_sub-back c = omega (arith, c.requires.i_bound, c.held-n.ensures)

pub put_segments-a-requires : goal.put_segments-a-requires
put_segments-a-requires c = let a = c.args in record { w_in_bounds = front_room a.segments.now a.runs.now a.views.now a.pool.now a.w a.i _ c.held-n.ensures (omega (arith, c.requires.i_bound, c.held-n.ensures)) (new_segment a.prefix.now) a.c segments _ c.requires.w_in_bounds; w_in_bounds_2 = front_room a.segments.now a.runs.now a.views.now a.pool.now a.w a.i _ c.held-n.ensures (omega (arith, c.requires.i_bound, c.held-n.ensures)) (new_segment a.prefix.now) a.c runs _ c.requires.w_in_bounds_2; w_in_bounds_3 = front_room a.segments.now a.runs.now a.views.now a.pool.now a.w a.i _ c.held-n.ensures (omega (arith, c.requires.i_bound, c.held-n.ensures)) (new_segment a.prefix.now) a.c views _ c.requires.w_in_bounds_3; w_in_bounds_4 = front_room a.segments.now a.runs.now a.views.now a.pool.now a.w a.i _ c.held-n.ensures (omega (arith, c.requires.i_bound, c.held-n.ensures)) (new_segment a.prefix.now) a.c pool _ c.requires.w_in_bounds_4 }

pub put_new-b-requires : goal.put_new-b-requires
put_new-b-requires c = let a = c.args in record { prefix_in_bounds = omega (arith, c.put_segments-a.auto.out_segments, new_room a.segments.now a.runs.now a.views.now a.pool.now a.w a.i _ c.held-n.ensures (omega (arith, c.requires.i_bound, c.held-n.ensures)) (new_segment a.prefix.now) a.c _ c.put_segments-a.ensures.value segments (length a.out_segments.now) c.requires.w_in_bounds); prefix_in_bounds_2 = omega (arith, c.put_segments-a.auto.out_runs, new_room a.segments.now a.runs.now a.views.now a.pool.now a.w a.i _ c.held-n.ensures (omega (arith, c.requires.i_bound, c.held-n.ensures)) (new_segment a.prefix.now) a.c _ c.put_segments-a.ensures.value runs (length a.out_runs.now) c.requires.w_in_bounds_2); prefix_in_bounds_3 = omega (arith, c.put_segments-a.auto.out_views, new_room a.segments.now a.runs.now a.views.now a.pool.now a.w a.i _ c.held-n.ensures (omega (arith, c.requires.i_bound, c.held-n.ensures)) (new_segment a.prefix.now) a.c _ c.put_segments-a.ensures.value views (length a.out_views.now) c.requires.w_in_bounds_3); prefix_in_bounds_4 = omega (arith, c.put_segments-a.auto.out_pool, new_room a.segments.now a.runs.now a.views.now a.pool.now a.w a.i _ c.held-n.ensures (omega (arith, c.requires.i_bound, c.held-n.ensures)) (new_segment a.prefix.now) a.c _ c.put_segments-a.ensures.value pool (length a.out_pool.now) c.requires.w_in_bounds_4) }

pub put_segments-requires : goal.put_segments-requires
put_segments-requires c = let a = c.args in record { w_in_bounds = omega (arith, c.put_segments-a.auto.out_segments, c.put_new-b.auto.out_segments, back_room a.segments.now a.runs.now a.views.now a.pool.now a.w a.i _ c.held-n.ensures (omega (arith, c.requires.i_bound, c.held-n.ensures)) (new_segment a.prefix.now) a.c _ c.put_segments-a.ensures.value _ c.put_new-b.ensures.value segments (length a.out_segments.now) c.requires.w_in_bounds); w_in_bounds_2 = omega (arith, c.put_segments-a.auto.out_runs, c.put_new-b.auto.out_runs, back_room a.segments.now a.runs.now a.views.now a.pool.now a.w a.i _ c.held-n.ensures (omega (arith, c.requires.i_bound, c.held-n.ensures)) (new_segment a.prefix.now) a.c _ c.put_segments-a.ensures.value _ c.put_new-b.ensures.value runs (length a.out_runs.now) c.requires.w_in_bounds_2); w_in_bounds_3 = omega (arith, c.put_segments-a.auto.out_views, c.put_new-b.auto.out_views, back_room a.segments.now a.runs.now a.views.now a.pool.now a.w a.i _ c.held-n.ensures (omega (arith, c.requires.i_bound, c.held-n.ensures)) (new_segment a.prefix.now) a.c _ c.put_segments-a.ensures.value _ c.put_new-b.ensures.value views (length a.out_views.now) c.requires.w_in_bounds_3); w_in_bounds_4 = omega (arith, c.put_segments-a.auto.out_pool, c.put_new-b.auto.out_pool, back_room a.segments.now a.runs.now a.views.now a.pool.now a.w a.i _ c.held-n.ensures (omega (arith, c.requires.i_bound, c.held-n.ensures)) (new_segment a.prefix.now) a.c _ c.put_segments-a.ensures.value _ c.put_new-b.ensures.value pool (length a.out_pool.now) c.requires.w_in_bounds_4) }

pub returns : goal.returns
unfolding segments_laid segments_runs_laid segments_views_laid
returns c = let a = c.args in record { value = with_past a.segments.now a.runs.now a.views.now a.pool.now a.w a.i _ c.held-n.ensures (omega (arith, c.requires.i_bound, c.held-n.ensures)) (new_segment a.prefix.now) a.c _ c.put_segments-a.ensures.value _ c.put_new-b.ensures.value _ c.put_segments.ensures.value; out_segments_after = with_laid a.segments.now a.runs.now a.views.now a.pool.now a.w a.i _ c.held-n.ensures (omega (arith, c.requires.i_bound, c.held-n.ensures)) (new_segment a.prefix.now) a.c _ c.put_segments-a.ensures.value _ c.put_new-b.ensures.value segment_rows _ _ _ _ c.requires.w_in_bounds c.put_segments-a.ensures.out_segments_after c.put_new-b.ensures.out_segments_after c.put_segments.ensures.out_segments_after; out_runs_after = with_laid a.segments.now a.runs.now a.views.now a.pool.now a.w a.i _ c.held-n.ensures (omega (arith, c.requires.i_bound, c.held-n.ensures)) (new_segment a.prefix.now) a.c _ c.put_segments-a.ensures.value _ c.put_new-b.ensures.value segment_runs _ _ _ _ c.requires.w_in_bounds_2 c.put_segments-a.ensures.out_runs_after c.put_new-b.ensures.out_runs_after c.put_segments.ensures.out_runs_after; out_views_after = with_laid a.segments.now a.runs.now a.views.now a.pool.now a.w a.i _ c.held-n.ensures (omega (arith, c.requires.i_bound, c.held-n.ensures)) (new_segment a.prefix.now) a.c _ c.put_segments-a.ensures.value _ c.put_new-b.ensures.value segment_views _ _ _ _ c.requires.w_in_bounds_3 c.put_segments-a.ensures.out_views_after c.put_new-b.ensures.out_views_after c.put_segments.ensures.out_views_after; out_pool_after = with_bytes a.segments.now a.runs.now a.views.now a.pool.now a.w a.i _ c.held-n.ensures (omega (arith, c.requires.i_bound, c.held-n.ensures)) (new_segment a.prefix.now) a.c _ c.put_segments-a.ensures.value _ c.put_new-b.ensures.value _ _ _ _ c.requires.w_in_bounds_4 c.put_segments-a.ensures.out_pool_after c.put_new-b.ensures.out_pool_after c.put_segments.ensures.out_pool_after }
