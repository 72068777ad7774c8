use Rattle.records.specs.Row.{tree_at}
use Rattle.unite_trees.proofs.Parts.{tree_none}
use Rattle.unite_trees.proofs.trees_measured.tree_at.Goals as goal

pub returns-then-t-b : goal.returns-then-t-b
unfolding tree_at
returns-then-t-b c = tree_none c.args.t.now c.args.b c.if-t-b.true

pub returns : goal.returns
unfolding tree_at
returns c = cc
