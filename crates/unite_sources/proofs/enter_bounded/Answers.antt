use Rattle.unite_sources.proofs.Arranging.{enters}
use borrow.Author.Rules.{rules}
use Rattle.unite_sources.proofs.enter_bounded.Goals as goal

pub returns-in-None : goal.returns-in-None
returns-in-None c = search (enters, rules)

pub returns-in-Some : goal.returns-in-Some
returns-in-Some c = search (enters, rules)
