use native.Mathlib.Omega.{arith}
use Rattle.unite_sources.specs.Rows.{places_in}
use Rattle.unite_sources.proofs.Gathering.{apart_none, apart_more, apart_met, apart_all}
use Rattle.unite_sources.proofs.prefix_lists.prefixes_nest.Goals as goal

pub loop-k-init : goal.loop-k-init
unfolding places_in
loop-k-init c = apart_none

pub returns-then-begins_next : goal.returns-then-begins_next
unfolding places_in
returns-then-begins_next c = apart_met c.loop-k.invariant _ (omega (arith, c.loop-k-test.true, c.saturating_sub-k-end.ensures)) c.begins_next.ensures c.if-begins_next.true

pub loop-k-preserved : goal.loop-k-preserved
unfolding places_in
loop-k-preserved c = apart_more c.loop-k.invariant _ (omega (arith, c.loop-k-test.true, c.saturating_sub-k-end.ensures)) c.begins_next.ensures c.if-begins_next.false

pub returns : goal.returns
unfolding places_in
returns c = apart_all c.loop-k.invariant (omega (arith, c.loop-k-test.false, c.saturating_sub-k-end.ensures))
