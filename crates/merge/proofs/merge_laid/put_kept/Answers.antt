use Rattle.records.proofs.Laid.{segments, runs, views, pool}
use Rattle.merge.proofs.Laying.{kept_none, kept_room, kept_one}
use Rattle.merge.proofs.merge_laid.put_kept.Goals as goal

pub put_segment-requires : goal.put_segment-requires
put_segment-requires c = let a = c.args in let r = kept_room a.runs.now a.views.now a.pool.now a.keep a.c _ c.in-Some.is in record { s_in_bounds = r segments _ c.requires.keep_in_bounds; s_in_bounds_2 = r runs _ c.requires.keep_in_bounds_2; s_in_bounds_3 = r views _ c.requires.keep_in_bounds_3; s_in_bounds_4 = r pool _ c.requires.keep_in_bounds_4 }

pub returns-in-None : goal.returns-in-None
returns-in-None c = let a = c.args in let whole = kept_none a.runs.now a.views.now a.pool.now a.keep a.c _ _ _ _ c.in-None.is in record { value = whole.0; out_segments_after = whole.1.0; out_runs_after = whole.1.1.0; out_views_after = whole.1.1.1.0; out_pool_after = whole.1.1.1.1 }

pub returns-in-Some : goal.returns-in-Some
returns-in-Some c = let a = c.args in let whole = kept_one a.runs.now a.views.now a.pool.now a.keep a.c _ c.in-Some.is _ _ _ _ _ _ _ _ _ c.put_segment.ensures.value c.put_segment.ensures.out_segments_after c.put_segment.ensures.out_runs_after c.put_segment.ensures.out_views_after c.put_segment.ensures.out_pool_after in record { value = whole.0; out_segments_after = whole.1.0; out_runs_after = whole.1.1.0; out_views_after = whole.1.1.1.0; out_pool_after = whole.1.1.1.1 }
