use native.Mathlib.Omega.{arith}
use Rattle.unite_ranges.specs.Rows.{ranged_in}
use Rattle.unite_ranges.proofs.Placed.{apart_none, apart_more, apart_met, apart_all}
use Rattle.unite_ranges.proofs.ranges_overlap.Goals as goal

pub loop-k-init : goal.loop-k-init
unfolding ranged_in
loop-k-init c = apart_none

pub returns-then-overlap_at : goal.returns-then-overlap_at
unfolding ranged_in
returns-then-overlap_at c = apart_met c.loop-k.invariant _ (omega (arith, c.loop-k-test.true, c.saturating_sub-k-end.ensures)) c.overlap_at.ensures c.if-overlap_at.true

pub loop-k-preserved : goal.loop-k-preserved
unfolding ranged_in
loop-k-preserved c = apart_more c.loop-k.invariant _ (omega (arith, c.loop-k-test.true, c.saturating_sub-k-end.ensures)) c.overlap_at.ensures c.if-overlap_at.false

pub returns : goal.returns
unfolding ranged_in
returns c = apart_all c.loop-k.invariant (omega (arith, c.loop-k-test.false, c.saturating_sub-k-end.ensures))
