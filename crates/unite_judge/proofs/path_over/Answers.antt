use Rattle.unite_judge.proofs.Judging.{paths}
use borrow.Author.Rules.{rules}
use Rattle.unite_judge.proofs.path_over.Goals as goal

pub returns-then-most-p : goal.returns-then-most-p
returns-then-most-p c = search (paths, rules)

pub returns-then-n-p : goal.returns-then-n-p
returns-then-n-p c = search (paths, rules)

pub returns : goal.returns
returns c = search (paths, rules)
