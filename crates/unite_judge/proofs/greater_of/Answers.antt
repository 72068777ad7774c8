use Rattle.unite_judge.proofs.Judging.{greater_new, greater_old}
use borrow.Author.Rules.{rules}
use Rattle.unite_judge.proofs.greater_of.Goals as goal

pub returns-then-a-b : goal.returns-then-a-b
returns-then-a-b c = search (greater_new, rules)

pub returns : goal.returns
returns c = search (greater_old, rules)
