use Rattle.unite_sources.proofs.Words.{name_absent, name_named}
use borrow.Author.Rules.{rules}
use Rattle.unite_sources.proofs.name_at.Goals as goal

pub returns-in-0 : goal.returns-in-0
returns-in-0 c = search (name_absent, c.in-0.is, rules)

pub returns-in_default : goal.returns-in_default
returns-in_default c = search (name_named, c.in_default.in_default-own.rest.1, rules)
