use Prim.Native.Nat.{◌/◌}
use mathlib.Core.Path.{refl}
use native.Mathlib.Omega.{arith}
use lib.ListN.{length}
use Rattle.tables.proofs.Windows.{held_in}
use Rattle.records.specs.Decode.{ids_in}
use Rattle.prune.proofs.Used.{counted_none, counted_small, counted_more, counted_all}
use Rattle.prune.proofs.count_used.Goals as goal

pub loop-k-init : goal.loop-k-init
unfolding ids_in
loop-k-init c = counted_none

pub overflow_add-w : goal.overflow_add-w
unfolding ids_in
overflow_add-w c = omega (arith, held_in c.args.w (length c.args.ids.now / 2) c.loop-k.k (omega arith))

pub used_at-m-requires : goal.used_at-m-requires
unfolding ids_in
used_at-m-requires c = held_in c.args.w (length c.args.ids.now / 2) c.loop-k.k (omega arith)

pub overflow_add-m : goal.overflow_add-m
unfolding ids_in
overflow_add-m c = omega (arith, counted_small c.loop-k.invariant _ c.loop-k-test.true c.used_at-m.ensures)

pub loop-k-preserved : goal.loop-k-preserved
unfolding ids_in
loop-k-preserved c = counted_more c.loop-k.invariant _ _ c.loop-k-test.true c.used_at-m.ensures refl

pub returns : goal.returns
unfolding ids_in
returns c = rw (← c.held-n.ensures) (counted_all c.loop-k.invariant c.loop-k-test.false)
