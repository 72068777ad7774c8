use Rattle.merge.proofs.merge_segments_from_compactor.Goals as goal

pub returns : goal.returns
returns c = c.merge_segments.ensures
