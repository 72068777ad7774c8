use Rattle.manifest_rows.proofs.Turns.{turn_none, turn_wrong, moves_not}
use Rattle.manifest_rows.proofs.borrows_filled.fill_borrows.Goals as goal

pub loop-init : goal.loop-init
loop-init c = turn_none _ _ _ _ _ _ c.requires

pub returns-in_err-p : goal.returns-in_err-p
returns-in_err-p c = moves_not _ _ _ _ _ _ c.from_residual.ensures.1 (turn_wrong _ _ _ _ _ _ _ _ _ c.loop.invariant _ c.loop-test.true c.in_err-p.ensures)
