use Rattle.unite_trees.proofs.trees_measured.window_at.Goals as goal

pub returns : goal.returns
returns c = cc
