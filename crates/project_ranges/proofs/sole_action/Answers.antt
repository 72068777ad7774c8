use borrow.Author.Rules.{rules}
use Rattle.project_ranges.proofs.Actions.{sole_set}
use Rattle.project_ranges.proofs.sole_action.Goals as goal

pub returns-in-Some : goal.returns-in-Some
returns-in-Some c = search (sole_set, rules)
