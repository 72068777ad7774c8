use Rattle.measure.proofs.Walks.{then_on, walked_none, walked_broken}
use Rattle.measure.specs.Walk.{segments_walk}
use Rattle.measure.proofs.trees_walked.segments_walk.Goals as goal

pub loop-k-init : goal.loop-k-init
loop-k-init c = walked_none _ _ _ _ _ _ _ _ c.window_step.ensures c.in_ok-d.was

pub returns-in_err-d-2 : goal.returns-in_err-d-2
unfolding segments_walk
returns-in_err-d-2 c = then_on _ _ _ c.window_step.ensures _ _ c.in_ok-d.was (walked_broken _ _ _ _ _ _ c.loop-k.invariant _ _ c.segment_step.ensures c.from_residual-in_err-d-2.ensures c.in_err-d-2.was c.loop-k-test.true)
