use borrow.Author.Rules.{rules}
use borrow.Author.Tests.{not-true, not-false}
use Rattle.keys.proofs.Picks.{picks}
use Rattle.measure.specs.Walk.{window_walk}
use Rattle.measure.proofs.views_walked.window_step.Goals as goal

pub returns-then-not-lies_in : goal.returns-then-not-lies_in
unfolding window_walk
returns-then-not-lies_in c = search (picks, not-true, not-false, rules)

pub returns : goal.returns
unfolding window_walk
returns c = search (picks, not-true, not-false, rules)
