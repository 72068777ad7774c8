use borrow.Author.Rules.{rules}
use native.Mathlib.Omega.{arith}
use Rattle.records.specs.Decode.{views_in}
use Rattle.manifest_write.proofs.Lists.{lists, listed_more, row_in}
use Rattle.manifest_write.proofs.rows_put.add_views.Goals as goal

pub loop-k-init : goal.loop-k-init
unfolding views_in
loop-k-init c = search (lists, rules)

pub overflow_add-w : goal.overflow_add-w
unfolding views_in
overflow_add-w c = omega (arith, row_in _ _ _ _ c.held-n.ensures c.loop-k-test.true)

pub view_at-requires : goal.view_at-requires
unfolding views_in
view_at-requires c = search (lists, rules)

pub loop-k-preserved : goal.loop-k-preserved
unfolding views_in
loop-k-preserved c = listed_more _ _ _ _ _ _ _ _ _ _ c.loop-k.invariant c.loop-k-test.true (rw c.view_at.ensures at c.add_view-p.ensures)

pub returns : goal.returns
unfolding views_in
returns c = search (lists, rules)
