use Rattle.unite_sources.proofs.prefix_lists.segments_of.Goals as goal

pub returns : goal.returns
returns c = cc
