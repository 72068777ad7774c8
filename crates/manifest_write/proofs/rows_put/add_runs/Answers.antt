use borrow.Author.Rules.{rules}
use native.Mathlib.Omega.{arith}
use Rattle.records.specs.Decode.{runs_in}
use Rattle.manifest_write.proofs.Lists.{lists, listed_more, row_in}
use Rattle.manifest_write.proofs.rows_put.add_runs.Goals as goal

pub loop-k-init : goal.loop-k-init
unfolding runs_in
loop-k-init c = search (lists, rules)

pub overflow_add-w : goal.overflow_add-w
unfolding runs_in
overflow_add-w c = omega (arith, row_in _ _ _ _ c.held-n.ensures c.loop-k-test.true)

pub run_at-requires : goal.run_at-requires
unfolding runs_in
run_at-requires c = search (lists, rules)

pub loop-k-preserved : goal.loop-k-preserved
unfolding runs_in
loop-k-preserved c = listed_more _ _ _ _ _ _ _ _ _ _ c.loop-k.invariant c.loop-k-test.true (rw c.run_at.ensures at c.add_run-p.ensures)

pub returns : goal.returns
unfolding runs_in
returns c = search (lists, rules)
