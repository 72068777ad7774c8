use Rattle.emit.proofs.borrows_put.put_borrow_row.Goals as goal

pub returns : goal.returns
returns c = rw (← c.borrow_words-row.ensures) c.put.ensures.out_after
