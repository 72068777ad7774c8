use Rattle.unite_sources.proofs.Naming.{names_same}
use borrow.Author.Rules.{rules}
use Rattle.unite_sources.proofs.same_name.Goals as goal

pub returns-in-None-b : goal.returns-in-None-b
returns-in-None-b c = search (names_same, rules)

pub returns-in-Some-b : goal.returns-in-Some-b
returns-in-Some-b c = search (names_same, rules)

pub returns-in-None-b-2 : goal.returns-in-None-b-2
returns-in-None-b-2 c = search (names_same, rules)

pub returns-in-Some-b-2 : goal.returns-in-Some-b-2
returns-in-Some-b-2 c = search (names_same, rules)
