use borrow.Author.Rules.{rules}
use Rattle.measure.proofs.Walks.{codes}
use Rattle.measure.specs.Walk.{bound_walk}
use Rattle.measure.proofs.views_walked.bound_step.Goals as goal

pub returns-in-0 : goal.returns-in-0
unfolding bound_walk
returns-in-0 c = search (codes, rules)

pub returns-in-1 : goal.returns-in-1
unfolding bound_walk
returns-in-1 c = search (codes, rules)

pub returns-in_default : goal.returns-in_default
unfolding bound_walk
returns-in_default c = search (codes, rules)
