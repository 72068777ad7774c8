use native.Mathlib.Omega.{arith}
use native.Mathlib.Nat.{add-zero}
use Rattle.manifest_rows.proofs.Turns.{turn_none, turn_wrong, filled_not}
use Rattle.manifest_rows.proofs.borrows_filled.fill_ids.Goals as goal

pub loop-k-init : goal.loop-k-init
loop-k-init c = (rw add-zero (turn_none _ _ _ _ _ _ c.requires), omega arith)

pub overflow_add-v : goal.overflow_add-v
overflow_add-v c = omega (arith, c.loop-k.invariant.0.so_far.under)

pub returns-in_err-p : goal.returns-in_err-p
returns-in_err-p c = filled_not _ _ _ _ _ _ _ c.from_residual.ensures.1 (turn_wrong _ _ _ _ _ _ _ _ _ c.loop-k.invariant.0 _ c.loop-k-test.true c.in_err-p.ensures)
