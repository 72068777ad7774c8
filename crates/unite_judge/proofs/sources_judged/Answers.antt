use Rattle.unite_judge.proofs.Judging.{keepers, kept_broken}
use borrow.Author.Rules.{rules}
use Rattle.unite_judge.proofs.sources_judged.Goals as goal

pub loop-i-init : goal.loop-i-init
loop-i-init c = search (keepers, rules)

pub returns-in-Err : goal.returns-in-Err
returns-in-Err c = kept_broken _ _ _ _ _ c.loop-i.invariant _ _ c.loop-i-test.true c.source_judged-j.ensures c.in-Err.is

pub loop-i-preserved : goal.loop-i-preserved
loop-i-preserved c = search (keepers, rules)

pub returns : goal.returns
returns c = search (keepers, rules)
