use borrow.Author.Rules.{rules}
use native.Mathlib.Omega.{arith}
use Rattle.records.specs.Decode.{ids_in}
use Rattle.manifest_write.proofs.Lists.{lists, listed_more, row_in}
use Rattle.manifest_write.proofs.rows_put.add_ids.Goals as goal

pub loop-k-init : goal.loop-k-init
unfolding ids_in
loop-k-init c = search (lists, rules)

pub overflow_add-w : goal.overflow_add-w
unfolding ids_in
overflow_add-w c = omega (arith, row_in _ _ _ _ c.held-n.ensures c.loop-k-test.true)

pub id_at-requires : goal.id_at-requires
unfolding ids_in
id_at-requires c = search (lists, rules)

pub loop-k-preserved : goal.loop-k-preserved
unfolding ids_in
loop-k-preserved c = listed_more _ _ _ _ _ _ _ _ _ _ c.loop-k.invariant c.loop-k-test.true (rw c.id_at.ensures at c.add_id-p.ensures)

pub returns : goal.returns
unfolding ids_in
returns c = search (lists, rules)
