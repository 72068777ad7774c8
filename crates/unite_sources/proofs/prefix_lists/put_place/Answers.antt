use Rattle.unite_sources.proofs.prefix_lists.put_place.Goals as goal

pub returns : goal.returns
returns c = cc
