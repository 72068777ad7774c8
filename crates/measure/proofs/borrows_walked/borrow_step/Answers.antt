use borrow.Author.Rules.{rules}
use borrow.Author.Tests.{not-true, not-false}
use Rattle.keys.proofs.Picks.{picks, pick_here}
use Rattle.measure.specs.Walk.{borrow_walk}
use Rattle.measure.proofs.borrows_walked.borrow_step.Goals as goal

pub returns-then-not-is_code : goal.returns-then-not-is_code
unfolding borrow_walk
returns-then-not-is_code c = search (picks, not-true, not-false, rules)

pub returns : goal.returns
unfolding borrow_walk
returns c = pick_here _ _ _ _ _ _ c.is_code.ensures (c.if-not-is_code.false) (rw c.borrow_at-r.ensures at c.borrow_row.ensures)
