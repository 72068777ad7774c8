use Rattle.emit.proofs.segments_put.put_segment_row.Goals as goal

pub returns : goal.returns
returns c = rw (← c.segment_words-row.ensures) c.put.ensures.out_after
