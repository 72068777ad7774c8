use borrow.Author.Rules.{rules}
use Rattle.measure.proofs.Walks.{codes}
use Rattle.measure.specs.Walk.{visible_walk}
use Rattle.measure.proofs.views_walked.visible_step.Goals as goal

pub returns-in-0 : goal.returns-in-0
unfolding visible_walk
returns-in-0 c = search (codes, rules)

pub returns-in-1 : goal.returns-in-1
unfolding visible_walk
returns-in-1 c = search (codes, rules)

pub returns-in_default : goal.returns-in_default
unfolding visible_walk
returns-in_default c = search (codes, rules)
