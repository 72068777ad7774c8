use borrow.Author.Rules.{rules}
use native.Mathlib.Omega.{arith}
use Rattle.records.specs.Decode.{borrows_in}
use Rattle.manifest_write.proofs.Lists.{lists, listed_more, row_in}
use Rattle.manifest_write.proofs.rows_put.add_borrows.Goals as goal

pub loop-k-init : goal.loop-k-init
unfolding borrows_in
loop-k-init c = search (lists, rules)

pub overflow_add-w : goal.overflow_add-w
unfolding borrows_in
overflow_add-w c = omega (arith, row_in _ _ _ _ c.held-n.ensures c.loop-k-test.true)

pub borrow_at-requires : goal.borrow_at-requires
unfolding borrows_in
borrow_at-requires c = search (lists, rules)

pub loop-k-preserved : goal.loop-k-preserved
unfolding borrows_in
loop-k-preserved c = listed_more _ _ _ _ _ _ _ _ _ _ c.loop-k.invariant c.loop-k-test.true (rw c.borrow_at.ensures at c.add_borrow-p.ensures)

pub returns : goal.returns
unfolding borrows_in
returns c = search (lists, rules)
