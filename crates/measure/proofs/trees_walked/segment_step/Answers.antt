use borrow.Author.Rules.{rules}
use borrow.Author.Tests.{not-true, not-false}
use Rattle.keys.proofs.Picks.{picks, pick_here}
use Rattle.measure.specs.Walk.{segment_walk}
use Rattle.measure.proofs.trees_walked.segment_step.Goals as goal

pub returns-then-not-is_code : goal.returns-then-not-is_code
unfolding segment_walk
returns-then-not-is_code c = search (picks, not-true, not-false, rules)

pub returns-then-not-is_code-2 : goal.returns-then-not-is_code-2
unfolding segment_walk
returns-then-not-is_code-2 c = search (picks, not-true, not-false, rules)

pub returns : goal.returns
unfolding segment_walk
returns c = pick_here _ _ _ _ _ _ c.is_code.ensures (c.if-not-is_code.false) (pick_here _ _ _ _ _ _ c.is_code-2.ensures (c.if-not-is_code-2.false) (rw c.segment_at-r.ensures at c.segment_row.ensures))
