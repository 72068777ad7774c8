use Rattle.unite_ranges.proofs.range_at.Goals as goal

pub returns : goal.returns
returns c = cc
