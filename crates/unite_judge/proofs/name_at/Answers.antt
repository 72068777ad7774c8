use Rattle.records.proofs.Codes.{optional_rest}
use Rattle.unite_judge.proofs.Judging.{name_none}
use borrow.Author.Rules.{rules}
use Rattle.unite_judge.proofs.name_at.Goals as goal

pub returns-in-0 : goal.returns-in-0
returns-in-0 c = search (name_none, c.in-0.is, rules)

pub returns-in_default : goal.returns-in_default
returns-in_default c = optional_rest _ _ _ _ _ c.in_default.in_default-own.rest.1 (cc)
