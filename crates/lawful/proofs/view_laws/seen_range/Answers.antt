use borrow.Author.Rules.{rules}
use Rattle.lawful.proofs.Arms.{lasts}
use Rattle.lawful.proofs.view_laws.seen_range.Goals as goal

pub returns-in-None : goal.returns-in-None
returns-in-None c = search (lasts, rules)

pub returns-in-Some : goal.returns-in-Some
returns-in-Some c = search (lasts, rules)
