-- `tables::put` meets its contract: the first k stand in the table. Assumes nothing.
use borrow.Author.Rules.{rules}
use Rattle.tables.proofs.Copies.{copied_none, copied_at, copied_all}
use Rattle.tables.proofs.put.Goals as goal

pub loop-k-init : goal.loop-k-init
loop-k-init g c = copied_none _ _ _ c.requires

pub loop-k-preserved : goal.loop-k-preserved
loop-k-preserved g c = search (copied_at _ _ _ _ _ _ c.loop-k.invariant _ c.index-src-k.is c.loop-k-test.true, rules)

pub returns-clause-out_after : goal.returns-clause-out_after
returns-clause-out_after g c = copied_all _ _ _ _ _ _ c.loop-k.invariant c.loop-k-test.false
