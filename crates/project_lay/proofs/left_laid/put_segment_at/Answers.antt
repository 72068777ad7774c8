use Rattle.project_ranges.specs.Args.{config_in}
use Rattle.project_lay.proofs.Adds.{piece_is}
use Rattle.project_lay.proofs.Puts.{segments_room_as, segments_laid_as}
use Rattle.project_lay.proofs.left_laid.put_segment_at.Goals as goal

pub put_segment_after-requires : goal.put_segment_after-requires
put_segment_after-requires c = let a = c.args in let whole = segments_room_as _ _ (piece_is a.pool.now (config_in a.pool.now a.config a.own.now) a.place _ _ a.runs.now a.views.now c.resolve_segment_action-a.result c.segment_at-s.ensures c.resolve_segment_action-a.ensures) a.c _ _ _ _ (c.requires.i_in_bounds_2, (c.requires.i_in_bounds_3, (c.requires.i_in_bounds_4, c.requires.i_in_bounds_5))) in record { s_in_bounds = whole.0; s_in_bounds_2 = whole.1.0; s_in_bounds_3 = whole.1.1.0; s_in_bounds_4 = whole.1.1.1 }

pub returns : goal.returns
returns c = let a = c.args in let whole = segments_laid_as _ _ (piece_is a.pool.now (config_in a.pool.now a.config a.own.now) a.place _ _ a.runs.now a.views.now c.resolve_segment_action-a.result c.segment_at-s.ensures c.resolve_segment_action-a.ensures) a.c _ _ _ _ _ _ _ _ _ (c.put_segment_after.ensures.value, (c.put_segment_after.ensures.out_segments_after, (c.put_segment_after.ensures.out_runs_after, (c.put_segment_after.ensures.out_views_after, c.put_segment_after.ensures.out_pool_after)))) in record { value = whole.0; out_segments_after = whole.1.0; out_runs_after = whole.1.1.0; out_views_after = whole.1.1.1.0; out_pool_after = whole.1.1.1.1 }
