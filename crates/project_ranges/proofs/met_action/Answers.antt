use borrow.Author.Rules.{rules}
use Rattle.project_ranges.proofs.Actions.{mets}
use Rattle.project_ranges.proofs.met_action.Goals as goal

pub returns-then-holds_none : goal.returns-then-holds_none
returns-then-holds_none c = search (mets, rules)

pub returns-in-None : goal.returns-in-None
returns-in-None c = search (mets, rules)

pub returns-else-holds_none : goal.returns-else-holds_none
returns-else-holds_none c = search (mets, rules)
