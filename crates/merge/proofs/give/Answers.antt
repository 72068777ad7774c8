use Rattle.measure.proofs.Exits.{exit_of}
use Rattle.records.specs.Decode.{segments_in}
use Rattle.merge.specs.Answer.{LentList}
use Rattle.merge.specs.Steps.{merged_from}
use Rattle.merge.proofs.Giving.{give_broken, give_short, give_room, give_done}
use Rattle.merge.proofs.give.Goals as goal

pub measure_merged-requires : goal.measure_merged-requires
measure_merged-requires c = record { w_value = c.requires.w_value; w_value_2 = c.requires.w_value_2 }

pub returns-in_err-f : goal.returns-in_err-f
returns-in_err-f c = rw (exit_of _ _ _ _ c.in_err-f.ensures.value c.from_residual.ensures.1) (let a = c.args in let o : LentList = record { segments = a.out_segments.now; views = a.out_views.now; runs = a.out_runs.now; pool = a.out_pool.now } in let ss = merged_from a.side (segments_in a.segments.now a.runs.now a.views.now a.pool.now a.w) (segments_in a.segments.now a.runs.now a.views.now a.pool.now a.c) in give_broken a.lim ss o _ c.measure_merged.ensures c.in_err-f.ensures.ok_part)

pub put_merged-to-requires : goal.put_merged-to-requires
put_merged-to-requires c = let a = c.args in let o : LentList = record { segments = a.out_segments.now; views = a.out_views.now; runs = a.out_runs.now; pool = a.out_pool.now } in let ss = merged_from a.side (segments_in a.segments.now a.runs.now a.views.now a.pool.now a.w) (segments_in a.segments.now a.runs.now a.views.now a.pool.now a.c) in let rest = give_room a.lim ss o _ c.measure_merged.ensures _ c.in_ok-f.ensures.ok_part _ c.fits_in.ensures c.if-fits_in.true in record { w_value = c.requires.w_value; c_in_bounds = rest.0; c_in_bounds_2 = rest.1.0; c_in_bounds_3 = rest.1.1.0; c_in_bounds_4 = rest.1.1.1 }

pub returns-then-fits_in : goal.returns-then-fits_in
returns-then-fits_in c = let a = c.args in let o : LentList = record { segments = a.out_segments.now; views = a.out_views.now; runs = a.out_runs.now; pool = a.out_pool.now } in let ss = merged_from a.side (segments_in a.segments.now a.runs.now a.views.now a.pool.now a.w) (segments_in a.segments.now a.runs.now a.views.now a.pool.now a.c) in give_done a.lim ss o _ c.measure_merged.ensures _ c.in_ok-f.ensures.ok_part _ c.fits_in.ensures _ _ _ _ _ c.if-fits_in.true c.put_merged-to.ensures.value c.put_merged-to.ensures.out_segments_after c.put_merged-to.ensures.out_runs_after c.put_merged-to.ensures.out_views_after c.put_merged-to.ensures.out_pool_after

pub returns : goal.returns
returns c = let a = c.args in let o : LentList = record { segments = a.out_segments.now; views = a.out_views.now; runs = a.out_runs.now; pool = a.out_pool.now } in let ss = merged_from a.side (segments_in a.segments.now a.runs.now a.views.now a.pool.now a.w) (segments_in a.segments.now a.runs.now a.views.now a.pool.now a.c) in give_short a.lim ss o _ c.measure_merged.ensures _ c.in_ok-f.ensures.ok_part _ c.fits_in.ensures c.if-fits_in.false
