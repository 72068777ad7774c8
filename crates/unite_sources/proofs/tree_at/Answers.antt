use Rattle.unite_sources.proofs.tree_at.Goals as goal

pub returns : goal.returns
returns c = cc
