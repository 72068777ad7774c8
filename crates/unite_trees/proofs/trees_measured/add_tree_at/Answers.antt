use mathlib.Core.Path.{sym, ◌∙◌}
use Rattle.project_views.proofs.Summed.{added_is}
use Rattle.unite_trees.proofs.Parts.{tree_broken, tree_added}
use Rattle.unite_trees.proofs.trees_measured.add_tree_at.Goals as goal

pub returns-in_err-d : goal.returns-in_err-d
returns-in_err-d c = rw c.from_residual.ensures (tree_broken c.args.most c.args.c c.args.views.now c.args.pool.now c.args.runs.now _ _ c.tree_of-x.ensures _ c.add_views.ensures c.in_err-d.was)

pub add_runs-requires : goal.add_runs-requires
add_runs-requires c = (added_is _ _ _ _ (sym c.add_views.ensures ∙ c.in_ok-d.was)).1

pub returns : goal.returns
returns c = tree_added c.args.most c.args.c c.args.views.now c.args.pool.now c.args.runs.now _ _ c.tree_of-x.ensures _ c.add_views.ensures _ _ c.in_ok-d.was c.add_runs.ensures
