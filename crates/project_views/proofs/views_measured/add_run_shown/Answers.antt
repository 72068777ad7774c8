use Rattle.records.specs.Decode.{run_in}
use Rattle.project_views.specs.Reach.{reach_of}
use Rattle.project_views.specs.Shown.{run_shown}
use Rattle.project_views.proofs.Adds.{run_broken, run_gone, run_left}
use Rattle.project_views.proofs.views_measured.add_run_shown.Goals as goal

pub returns-in_err-d : goal.returns-in_err-d
unfolding run_in
returns-in_err-d c = rw c.from_residual.ensures (let a = c.args in let x = run_in a.views.now a.pool.now a.x in run_broken a.most x a.c _ (run_shown (reach_of a.pool.now a.r) x.views) c.add_views_shown.ensures c.in_err-d.was)

pub returns-then-d-c : goal.returns-then-d-c
unfolding run_in
returns-then-d-c c = let a = c.args in let x = run_in a.views.now a.pool.now a.x in run_gone a.most x a.c _ _ (run_shown (reach_of a.pool.now a.r) x.views) c.add_views_shown.ensures c.in_ok-d.was c.if-d-c.true

pub returns : goal.returns
unfolding run_in
returns c = let a = c.args in let x = run_in a.views.now a.pool.now a.x in run_left a.most x a.c _ _ (run_shown (reach_of a.pool.now a.r) x.views) _ c.add_views_shown.ensures c.in_ok-d.was c.if-d-c.false c.add.ensures
