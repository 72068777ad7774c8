use Rattle.project_views.proofs.views_laid.put_run_shown_at.Goals as goal

pub put_run_shown-requires : goal.put_run_shown-requires
put_run_shown-requires c = rw c.run_at.ensures (record { x_in_bounds = c.requires.i_in_bounds_2; x_in_bounds_2 = c.requires.i_in_bounds_3; x_in_bounds_3 = c.requires.i_in_bounds_4 })

pub returns : goal.returns
returns c = rw (← c.run_at.ensures) (record { value = c.put_run_shown.ensures.value; out_runs_after = c.put_run_shown.ensures.out_runs_after; out_views_after = c.put_run_shown.ensures.out_views_after; out_pool_after = c.put_run_shown.ensures.out_pool_after })
