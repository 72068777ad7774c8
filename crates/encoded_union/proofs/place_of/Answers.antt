use Rattle.encoded_union.proofs.place_of.Goals as goal

pub returns : goal.returns
returns c = rw (c.start_of-from.ensures, c.ix.ensures)
