use mathlib.Core.Path.{ap}
use native.Mathlib.Omega.{arith}
use Rattle.records.specs.Decode.{borrow_in}
use Rattle.records.specs.Fill.{borrow_fill}
use Rattle.records.specs.declared.Fill.{Fill}
use Rattle.emit.proofs.Rows.{borrow_past, borrow_row_lem}
use Rattle.emit.proofs.borrows_put.put_borrow.Goals as goal

pub put_part-past-requires : goal.put_part-past-requires
unfolding borrow_in borrow_fill
put_part-past-requires c = omega (arith, c.requires.b_in_bounds_3)

pub put_ids-to-requires : goal.put_ids-to-requires
unfolding borrow_in borrow_fill
put_ids-to-requires c = omega (arith, c.requires.b_in_bounds_2)

pub overflow_sub-row-2 : goal.overflow_sub-row-2
unfolding borrow_in borrow_fill
overflow_sub-row-2 c = omega (arith, ap (λ (f : Fill). f.ids) c.put_ids-to.ensures.value)

pub put_borrow_row-requires : goal.put_borrow_row-requires
unfolding borrow_in borrow_fill
put_borrow_row-requires c = omega (arith, c.requires.b_in_bounds)

pub overflow_add-result : goal.overflow_add-result
unfolding borrow_in borrow_fill
overflow_add-result c = omega (arith, c.requires.b_in_bounds, c.well_formed)

pub returns : goal.returns
unfolding borrow_in borrow_fill
returns c = let a = c.args in let b = borrow_in a.ids.now a.pool.now a.b in let e = c.put_part-past.ensures.value in let p = c.put_ids-to.ensures.value in record { value = borrow_past a.c b _ e _ p; out_borrows_after = borrow_row_lem a.c b _ e _ p _ _ c.put_borrow_row.ensures; out_ids_after = c.put_ids-to.ensures.out_ids_after; out_pool_after = c.put_part-past.ensures.out_pool_after }
