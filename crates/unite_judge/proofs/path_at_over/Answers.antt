use Rattle.unite_judge.proofs.Judging.{path_read}
use borrow.Author.Rules.{rules}
use Rattle.unite_judge.proofs.path_at_over.Goals as goal

pub returns : goal.returns
returns c = search (path_read, rules)
