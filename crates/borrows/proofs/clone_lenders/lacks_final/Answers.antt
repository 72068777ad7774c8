use borrow.Author.Rules.{rules}
use Rattle.lawful.proofs.Loops.{rows}
use Rattle.borrows.proofs.Renewing.{lacking, lacks_more}
use Rattle.borrows.proofs.clone_lenders.lacks_final.Goals as goal

pub loop-k-init : goal.loop-k-init
loop-k-init c = search (lacking, rules)

pub overflow_add-w : goal.overflow_add-w
overflow_add-w c = search (rows, rules)

pub borrow_at-b-requires : goal.borrow_at-b-requires
borrow_at-b-requires c = search (rows, rules)

pub returns-then-is_missing : goal.returns-then-is_missing
returns-then-is_missing c = search (lacking, rules)

pub loop-k-preserved : goal.loop-k-preserved
loop-k-preserved c = lacks_more _ _ _ _ c.loop-k.invariant c.loop-k-test.true _ _ c.borrow_at-b.ensures c.is_missing.ensures c.if-is_missing.false

pub returns : goal.returns
returns c = search (lacking, rules)
