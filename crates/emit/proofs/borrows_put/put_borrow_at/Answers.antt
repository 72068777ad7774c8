use Rattle.emit.proofs.borrows_put.put_borrow_at.Goals as goal

pub put_borrow-requires : goal.put_borrow-requires
put_borrow-requires c = rw c.borrow_at.ensures (record { b_in_bounds = c.requires.i_in_bounds_2; b_in_bounds_2 = c.requires.i_in_bounds_3; b_in_bounds_3 = c.requires.i_in_bounds_4 })

pub returns : goal.returns
returns c = rw (← c.borrow_at.ensures) (record { value = c.put_borrow.ensures.value; out_borrows_after = c.put_borrow.ensures.out_borrows_after; out_ids_after = c.put_borrow.ensures.out_ids_after; out_pool_after = c.put_borrow.ensures.out_pool_after })
