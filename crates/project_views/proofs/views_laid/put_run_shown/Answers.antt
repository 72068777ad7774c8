use Rattle.records.specs.Decode.{run_in}
use Rattle.project_views.specs.Reach.{reach_of}
use Rattle.project_views.specs.Shown.{run_shown}
use Rattle.project_views.proofs.Runs.{run_room, run_none, run_order, run_some}
use Rattle.project_views.proofs.views_laid.put_run_shown.Goals as goal

pub filter_view_handles-to-requires : goal.filter_view_handles-to-requires
unfolding run_in
filter_view_handles-to-requires c = let a = c.args in let x = run_in a.views.now a.pool.now a.x in let whole = run_room x a.c (run_shown (reach_of a.pool.now a.r) x.views) _ _ _ (c.requires.x_in_bounds, (c.requires.x_in_bounds_2, c.requires.x_in_bounds_3)) in record { w_in_bounds = whole.0; w_in_bounds_2 = whole.1 }

pub returns-then-to-c : goal.returns-then-to-c
unfolding run_in
returns-then-to-c c = let a = c.args in let x = run_in a.views.now a.pool.now a.x in let whole = run_none x a.c _ (run_shown (reach_of a.pool.now a.r) x.views) _ _ _ _ _ (c.filter_view_handles-to.ensures.value, (c.filter_view_handles-to.ensures.out_views_after, c.filter_view_handles-to.ensures.out_pool_after)) c.if-to-c.true in record { value = whole.0; out_runs_after = whole.1.0; out_views_after = whole.1.1.0; out_pool_after = whole.1.1.1 }

pub put_run_row-requires : goal.put_run_row-requires
unfolding run_in
put_run_row-requires c = let a = c.args in let x = run_in a.views.now a.pool.now a.x in run_order x a.c _ (run_shown (reach_of a.pool.now a.r) x.views) _ _ _ (c.requires.x_in_bounds, (c.requires.x_in_bounds_2, c.requires.x_in_bounds_3)) c.filter_view_handles-to.ensures.value c.if-to-c.false

pub returns : goal.returns
unfolding run_in
returns c = let a = c.args in let x = run_in a.views.now a.pool.now a.x in let whole = run_some x a.c _ (run_shown (reach_of a.pool.now a.r) x.views) _ _ _ _ _ _ _ (c.filter_view_handles-to.ensures.value, (c.filter_view_handles-to.ensures.out_views_after, c.filter_view_handles-to.ensures.out_pool_after)) c.if-to-c.false c.put_run_row.ensures.value c.put_run_row.ensures.out_runs_after in record { value = whole.0; out_runs_after = whole.1.0; out_views_after = whole.1.1.0; out_pool_after = whole.1.1.1 }
