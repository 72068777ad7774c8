use Rattle.unite_trees.proofs.Parts.{run_broken, run_added}
use Rattle.unite_trees.proofs.trees_measured.add_run_at.Goals as goal

pub returns-in_err-d : goal.returns-in_err-d
returns-in_err-d c = rw c.from_residual.ensures (run_broken c.args.most c.args.c c.args.views.now c.args.pool.now c.args.runs.now c.args.i _ c.run_at-x.ensures _ c.add_views.ensures c.in_err-d.was)

pub returns : goal.returns
returns c = run_added c.args.most c.args.c c.args.views.now c.args.pool.now c.args.runs.now c.args.i _ c.run_at-x.ensures _ c.add_views.ensures _ _ c.in_ok-d.was c.add.ensures
