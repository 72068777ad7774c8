use native.Mathlib.Omega.{arith}
use Rattle.manifest_rows.proofs.Cuts.{borrow_begun}
use Rattle.manifest_rows.proofs.Borrows.{borrow_past}
use Rattle.manifest_rows.proofs.borrows_filled.fill_borrow.Goals as goal

pub fill_ids-requires : goal.fill_ids-requires
fill_ids-requires c = omega (arith, (borrow_begun _ _ _ _ c.in_ok-h.ensures).past, c.requires)

pub overflow_add-next : goal.overflow_add-next
overflow_add-next c = omega (arith, borrow_past _ _ _ _ c.in_ok-h.ensures _ _ _ _ c.in_ok-q.ensures _ c.in_ok-e.ensures, c.requires)
