use Rattle.borrows.proofs.clone_lenders.renew.Goals as goal

pub returns : goal.returns
returns c = rw c.final_of-source.ensures
