use native.Mathlib.Numerals.{add-one}
use lib.Arith.{sub_dec}
use Prim.Native.Nat.{◌/◌}
use native.Mathlib.Omega.{arith}
use lib.ListN.{length}
use Rattle.tables.proofs.Windows.{held_in}
use Rattle.project_views.proofs.Summed.{summed_none, summed_more, summed_broken, summed_all}
use Rattle.records.specs.Decode.{views_in}
use Rattle.unite_trees.proofs.trees_measured.add_views.Goals as goal

pub loop-k-init : goal.loop-k-init
unfolding views_in
loop-k-init c = summed_none c.requires

pub overflow_add-w : goal.overflow_add-w
unfolding views_in
overflow_add-w c = omega (arith, held_in c.args.w (length c.args.views.now / 16) c.loop-k.k (omega arith))

pub add_view_at-requires : goal.add_view_at-requires
unfolding views_in
add_view_at-requires c = held_in c.args.w (length c.args.views.now / 16) c.loop-k.k (omega arith)

pub returns-in_err-d : goal.returns-in_err-d
unfolding views_in
returns-in_err-d c = rw c.from_residual.ensures (rw (← c.held-n.ensures) (summed_broken c.loop-k.invariant _ c.loop-k-test.true c.add_view_at.ensures c.in_err-d.was))

pub loop-k-smaller : goal.loop-k-smaller
unfolding views_in
loop-k-smaller c = rw (add-one c.loop-k.k) (sub_dec c.held-n.result c.loop-k.k c.loop-k-test.true)

pub loop-k-preserved : goal.loop-k-preserved
unfolding views_in
loop-k-preserved c = summed_more c.loop-k.invariant _ c.loop-k-test.true c.add_view_at.ensures c.in_ok-d.was

pub returns : goal.returns
unfolding views_in
returns c = rw (← c.held-n.ensures) (summed_all c.loop-k.invariant c.loop-k-test.false)
