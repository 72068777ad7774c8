use Rattle.merge.proofs.merge_segments_from_writer.Goals as goal

pub returns : goal.returns
returns c = c.merge_segments.ensures
