use Rattle.unite_lend.proofs.checkpoint_of.Goals as goal

pub returns : goal.returns
returns c = cc
