use Rattle.unite_judge.proofs.Judging.{greatests}
use borrow.Author.Rules.{rules}
use Rattle.unite_judge.proofs.greatest_seq.Goals as goal

pub loop-i-init : goal.loop-i-init
loop-i-init c = search (greatests, rules)

pub loop-i-preserved : goal.loop-i-preserved
loop-i-preserved c = search (greatests, rules)

pub returns : goal.returns
returns c = search (greatests, rules)
