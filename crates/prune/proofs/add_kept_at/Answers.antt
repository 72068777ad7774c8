use Rattle.prune.proofs.add_kept_at.Goals as goal

pub returns : goal.returns
returns c = rw (← c.borrow_at.ensures) c.add_kept.ensures
