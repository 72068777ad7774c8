use Rattle.records.specs.Decode.{run_in}
use Rattle.records.specs.Fill.{run_fill}
use Rattle.records.specs.Layout.{run_bytes}
use Rattle.unite_trees.proofs.trees_laid.put_run_as.Goals as goal

pub put_run-requires : goal.put_run-requires
unfolding run_in run_fill run_bytes
put_run-requires c = rw c.run_at-x.ensures (record { r_in_bounds = c.requires.i_in_bounds_2; r_in_bounds_2 = c.requires.i_in_bounds_3; r_in_bounds_3 = c.requires.i_in_bounds_4 })

pub returns : goal.returns
unfolding run_in run_fill run_bytes
returns c = rw (← c.run_at-x.ensures) (record { value = c.put_run.ensures.value; out_runs_after = c.put_run.ensures.out_runs_after; out_views_after = c.put_run.ensures.out_views_after; out_pool_after = c.put_run.ensures.out_pool_after })
