use borrow.Author.Rules.{rules}
use Rattle.measure.proofs.Walks.{names}
use Rattle.measure.proofs.borrows_walked.name_step.Goals as goal

pub returns-in-None : goal.returns-in-None
returns-in-None c = search (names, rules)

pub returns-in-Some : goal.returns-in-Some
returns-in-Some c = search (names, rules)
