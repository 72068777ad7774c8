use Rattle.unite_lend.proofs.Below.{clears}
use borrow.Author.Rules.{rules}
use Rattle.unite_lend.proofs.used_lack_final.Goals as goal

pub loop-i-init : goal.loop-i-init
loop-i-init c = search (clears, rules)

pub returns-then-lacks_at : goal.returns-then-lacks_at
returns-then-lacks_at c = search (clears, rules)

pub loop-i-preserved : goal.loop-i-preserved
loop-i-preserved c = search (clears, rules)

pub returns : goal.returns
returns c = search (clears, rules)
