use native.Mathlib.Omega.{arith}
use Rattle.manifest_rows.proofs.Turns.{turn_none, turn_wrong, segment_moves_not}
use Rattle.manifest_rows.proofs.fill_segments.Goals as goal

pub loop-k-init : goal.loop-k-init
loop-k-init c = turn_none _ _ _ _ _ _ (omega arith, c.requires)

pub returns-in_err-p : goal.returns-in_err-p
returns-in_err-p c = segment_moves_not _ _ _ _ _ _ c.from_residual.ensures.1 (turn_wrong _ _ _ _ _ _ _ _ _ c.loop-k.invariant _ c.loop-k-test.true c.in_err-p.ensures)
