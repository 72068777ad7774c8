use mathlib.Core.Path.{◌∙◌}
use Rattle.records.specs.Decode.{run_in}
use Rattle.records.specs.Fill.{sum, runs, view_fill, run_fill}
use Rattle.records.specs.Layout.{run_bytes}
use Rattle.records.proofs.Laid.{views, pool}
use Rattle.emit.proofs.Laid.{room_last}
use Rattle.emit.proofs.Rows.{run_row_room, run_past, run_row_lem}
use Rattle.emit.proofs.runs_put.put_run.Goals as goal

pub put_views-to-requires : goal.put_views-to-requires
unfolding run_in run_fill run_bytes
put_views-to-requires c = let a = c.args in let r = run_in a.views.now a.pool.now a.r in record { w_in_bounds = room_last views a.c (runs 1) (sum view_fill r.views) _ c.requires.r_in_bounds_2; w_in_bounds_2 = room_last pool a.c (runs 1) (sum view_fill r.views) _ c.requires.r_in_bounds_3 }

pub put_run_row-requires : goal.put_run_row-requires
unfolding run_in run_fill run_bytes
put_run_row-requires c = let a = c.args in let r = run_in a.views.now a.pool.now a.r in run_row_room a.c r _ c.put_views-to.ensures.value _ c.requires.r_in_bounds

pub returns : goal.returns
unfolding run_in run_fill run_bytes
returns c = let a = c.args in let r = run_in a.views.now a.pool.now a.r in record { value = c.put_run_row.ensures.value ∙ run_past a.c r _ c.put_views-to.ensures.value; out_runs_after = run_row_lem a.c r _ c.put_views-to.ensures.value _ _ c.put_run_row.ensures.out_runs_after; out_views_after = c.put_views-to.ensures.out_views_after; out_pool_after = c.put_views-to.ensures.out_pool_after }
