use Rattle.unite_judge.proofs.Judging.{works}
use borrow.Author.Rules.{rules}
use Rattle.unite_judge.proofs.work_short.Goals as goal

pub returns-then-prefixes-f : goal.returns-then-prefixes-f
returns-then-prefixes-f c = search (works, rules)

pub returns-then-owned-f : goal.returns-then-owned-f
returns-then-owned-f c = search (works, rules)

pub returns-then-groups-f : goal.returns-then-groups-f
returns-then-groups-f c = search (works, rules)

pub returns-then-sets-f : goal.returns-then-sets-f
returns-then-sets-f c = search (works, rules)

pub returns : goal.returns
returns c = search (works, rules)
