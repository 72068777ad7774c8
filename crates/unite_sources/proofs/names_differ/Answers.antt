use mathlib.Core.Path.{ap}
use Rattle.records.specs.Decode.{name_in}
use Rattle.unite_sources.proofs.Naming.{agreeing_none, agreeing_more, agreeing_met, agreeing_all}
use Rattle.unite_sources.proofs.names_differ.Goals as goal

pub loop-i-init : goal.loop-i-init
loop-i-init c = agreeing_none _ _ _ (ap (name_in _) c.name_at-first.ensures)

pub returns-then-not-is_named : goal.returns-then-not-is_named
returns-then-not-is_named c = agreeing_met c.loop-i.invariant _ c.loop-i-test.true c.is_named.ensures (c.if-not-is_named.true)

pub loop-i-preserved : goal.loop-i-preserved
loop-i-preserved c = agreeing_more c.loop-i.invariant _ c.loop-i-test.true c.is_named.ensures (c.if-not-is_named.false)

pub returns : goal.returns
returns c = agreeing_all c.loop-i.invariant c.loop-i-test.false
