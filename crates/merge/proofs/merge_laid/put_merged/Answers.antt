use native.Mathlib.Omega.{arith}
use Rattle.merge.proofs.Left.{ends_fit, sum_fits, cursors_fit}
use Rattle.merge.proofs.Putting.{putting_none, putting_room, putting_less, putting_more, putting_all}
use Rattle.merge.proofs.merge_laid.put_merged.Goals as goal

pub overflow_add-end : goal.overflow_add-end
overflow_add-end c = let a = c.args in ends_fit a.segments.now a.views.now a.runs.now a.pool.now a.w a.c _ _ c.held-n.ensures c.held-m.ensures (omega (arith, c.well_formed.1.0))

pub loop-i-init : goal.loop-i-init
loop-i-init c = let a = c.args in putting_none a.side a.segments.now a.runs.now a.views.now a.pool.now a.w a.c _ _ _ _ _ _ c.held-n.ensures c.held-m.ensures c.requires.w_value.0 c.requires.w_value.1 c.requires.c_in_bounds c.requires.c_in_bounds_2 c.requires.c_in_bounds_3 c.requires.c_in_bounds_4

pub overflow_add-i : goal.overflow_add-i
overflow_add-i c = sum_fits _ _ _ _ _ _ _ _ _ _ c.loop-i.invariant.between (omega (arith, c.well_formed.1.0))

pub next_kept-s-requires : goal.next_kept-s-requires
next_kept-s-requires c = cursors_fit _ _ _ _ _ _ _ _ _ _ c.loop-i.invariant.between (omega (arith, c.well_formed.1.0))

pub put_kept-to-requires : goal.put_kept-to-requires
put_kept-to-requires c = let whole = putting_room _ _ _ _ _ _ _ _ _ _ _ _ _ _ _ _ _ _ _ _ _ c.loop-i.invariant _ c.next_kept-s.ensures c.loop-i-test.true in record { keep_in_bounds = whole.0; keep_in_bounds_2 = whole.1.0; keep_in_bounds_3 = whole.1.1.0; keep_in_bounds_4 = whole.1.1.1 }

pub loop-i-smaller : goal.loop-i-smaller
loop-i-smaller c = putting_less _ _ _ _ _ _ _ _ _ _ _ _ _ _ _ _ _ _ _ _ _ c.loop-i.invariant _ c.next_kept-s.ensures c.loop-i-test.true

pub loop-i-preserved : goal.loop-i-preserved
loop-i-preserved c = putting_more _ _ _ _ _ _ _ _ _ _ _ _ _ _ _ _ _ _ _ _ _ c.loop-i.invariant _ c.next_kept-s.ensures c.loop-i-test.true _ _ _ _ _ (c.put_kept-to.ensures.value, (c.put_kept-to.ensures.out_segments_after, (c.put_kept-to.ensures.out_runs_after, (c.put_kept-to.ensures.out_views_after, c.put_kept-to.ensures.out_pool_after))))

pub shape_of-out_segments : goal.shape_of-out_segments
shape_of-out_segments c = c.loop-i.invariant.rows.long

pub shape_of-out_runs : goal.shape_of-out_runs
shape_of-out_runs c = c.loop-i.invariant.run_rows_lem.long

pub shape_of-out_views : goal.shape_of-out_views
shape_of-out_views c = c.loop-i.invariant.view_rows_lem.long

pub shape_of-out_pool : goal.shape_of-out_pool
shape_of-out_pool c = c.loop-i.invariant.bytes.long

pub returns : goal.returns
returns c = let whole = putting_all _ _ _ _ _ _ _ _ _ _ _ _ _ _ _ _ _ _ _ _ _ c.loop-i.invariant c.loop-i-test.false in record { value = whole.0; out_segments_after = whole.1.0; out_runs_after = whole.1.1.0; out_views_after = whole.1.1.1.0; out_pool_after = whole.1.1.1.1 }
