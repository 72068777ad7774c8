use Rattle.unite_groups.proofs.Checkpoints.{looked_none, looked_more, looked_all}
use Rattle.unite_groups.proofs.group_members.supplied_with.Goals as goal

pub loop-i-init : goal.loop-i-init
loop-i-init c = looked_none _ _ _ _

pub loop-i-preserved : goal.loop-i-preserved
loop-i-preserved c = looked_more _ _ _ _ _ _ c.loop-i.invariant _ c.loop-i-test.true c.supplied_at-s.ensures

pub returns : goal.returns
returns c = looked_all _ _ _ _ _ _ c.loop-i.invariant c.loop-i-test.false
