use Rattle.emit.proofs.runs_put.put_run_at.Goals as goal

pub put_run-requires : goal.put_run-requires
put_run-requires c = rw c.run_at.ensures (record { r_in_bounds = c.requires.i_in_bounds_2; r_in_bounds_2 = c.requires.i_in_bounds_3; r_in_bounds_3 = c.requires.i_in_bounds_4 })

pub returns : goal.returns
returns c = rw (← c.run_at.ensures) (record { value = c.put_run.ensures.value; out_runs_after = c.put_run.ensures.out_runs_after; out_views_after = c.put_run.ensures.out_views_after; out_pool_after = c.put_run.ensures.out_pool_after })
