use Rattle.measure.proofs.Walks.{is_opened}
use borrow.Author.Rules.{rules}
use Rattle.unite_judge.proofs.is_code.Goals as goal

pub returns : goal.returns
returns c = search (is_opened, rules)
