use Rattle.encoded_union.proofs.put_source.Goals as goal

pub returns : goal.returns
returns c = rw (← c.source_words.ensures) c.put.ensures.out_after
