use Prim.Native.Nat.{◌/◌}
use native.Mathlib.Omega.{arith}
use lib.ListN.{length}
use Rattle.tables.proofs.Windows.{held_in}
use Rattle.unite_ranges.proofs.Wide.{wide_none, wide_more, wide_all, views_done}
use Rattle.unite_ranges.proofs.bounding_views.Goals as goal

pub loop-k-init : goal.loop-k-init
loop-k-init c = wide_none

pub overflow_add-first : goal.overflow_add-first
overflow_add-first c = omega (arith, held_in c.args.w (length c.args.views.now / 16) c.loop-k.k (omega arith))

pub bounding_view_at-q-requires : goal.bounding_view_at-q-requires
bounding_view_at-q-requires c = held_in c.args.w (length c.args.views.now / 16) c.loop-k.k (omega arith)

pub loop-k-preserved : goal.loop-k-preserved
loop-k-preserved c = wide_more c.loop-k.invariant c.loop-k-test.true c.bounding_view_at-q.ensures

pub returns : goal.returns
returns c = views_done c.args.views.now c.args.pool.now _ _ c.args.w _ c.held-n.ensures (wide_all c.loop-k.invariant c.loop-k-test.false)
