use Rattle.records.specs.Decode.{segment_in}
use Rattle.project_ranges.specs.Args.{action_in}
use Rattle.project_lay.proofs.Puts.{kept_room, put_kept, put_gone}
use Rattle.project_lay.proofs.left_laid.put_segment_after.Goals as goal

pub put_segment_kept-requires : goal.put_segment_kept-requires
unfolding segment_in
put_segment_kept-requires c = let a = c.args in let whole = kept_room (action_in a.pool.now a.a) (segment_in a.runs.now a.views.now a.pool.now a.s) _ c.stays.ensures a.c _ _ _ _ c.if-stays.true (c.requires.s_in_bounds, (c.requires.s_in_bounds_2, (c.requires.s_in_bounds_3, c.requires.s_in_bounds_4))) in record { s_in_bounds = whole.0; s_in_bounds_2 = whole.1.0; s_in_bounds_3 = whole.1.1.0; s_in_bounds_4 = whole.1.1.1 }

pub returns-then-stays : goal.returns-then-stays
unfolding segment_in
returns-then-stays c = let a = c.args in let whole = put_kept (action_in a.pool.now a.a) (segment_in a.runs.now a.views.now a.pool.now a.s) _ c.stays.ensures a.c _ _ _ _ _ _ _ _ _ c.if-stays.true (c.put_segment_kept.ensures.value, (c.put_segment_kept.ensures.out_segments_after, (c.put_segment_kept.ensures.out_runs_after, (c.put_segment_kept.ensures.out_views_after, c.put_segment_kept.ensures.out_pool_after)))) in record { value = whole.0; out_segments_after = whole.1.0; out_runs_after = whole.1.1.0; out_views_after = whole.1.1.1.0; out_pool_after = whole.1.1.1.1 }

pub returns : goal.returns
unfolding segment_in
returns c = let a = c.args in let whole = put_gone (action_in a.pool.now a.a) (segment_in a.runs.now a.views.now a.pool.now a.s) _ c.stays.ensures a.c _ _ _ _ c.if-stays.false in record { value = whole.0; out_segments_after = whole.1.0; out_runs_after = whole.1.1.0; out_views_after = whole.1.1.1.0; out_pool_after = whole.1.1.1.1 }
