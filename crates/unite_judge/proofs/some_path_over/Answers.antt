use Rattle.unite_judge.proofs.Judging.{shorts}
use borrow.Author.Rules.{rules}
use Rattle.unite_judge.proofs.some_path_over.Goals as goal

pub loop-i-init : goal.loop-i-init
loop-i-init c = search (shorts, rules)

pub returns-then-path_at_over : goal.returns-then-path_at_over
returns-then-path_at_over c = search (shorts, rules)

pub loop-i-preserved : goal.loop-i-preserved
loop-i-preserved c = search (shorts, rules)

pub returns : goal.returns
returns c = search (shorts, rules)
