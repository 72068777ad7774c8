use Rattle.unite_judge.proofs.Judging.{agreed_none, agreed_first}
use borrow.Author.Rules.{rules}
use Rattle.unite_judge.proofs.agreed_name.Goals as goal

pub returns-then-n-eq0 : goal.returns-then-n-eq0
returns-then-n-eq0 c = search (agreed_none, rules)

pub returns : goal.returns
returns c = search (agreed_first, rules)
