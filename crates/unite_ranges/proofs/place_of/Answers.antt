use Rattle.unite_ranges.specs.Rows.{ranged_in}
use Rattle.unite_ranges.proofs.Placed.{before_none, before_more, before_here, before_all}
use Rattle.unite_ranges.proofs.place_of.Goals as goal

pub loop-k-init : goal.loop-k-init
unfolding ranged_in
loop-k-init c = before_none

pub returns-then-starts_later : goal.returns-then-starts_later
unfolding ranged_in
returns-then-starts_later c = before_here c.loop-k.invariant _ c.loop-k-test.true c.starts_later.ensures c.if-starts_later.true

pub loop-k-preserved : goal.loop-k-preserved
unfolding ranged_in
loop-k-preserved c = before_more c.loop-k.invariant _ c.loop-k-test.true c.starts_later.ensures c.if-starts_later.false

pub returns : goal.returns
unfolding ranged_in
returns c = before_all c.loop-k.invariant c.loop-k-test.false
