use Rattle.prune.proofs.put_kept_at.Goals as goal

pub put_kept-requires : goal.put_kept-requires
put_kept-requires c = rw c.borrow_at.ensures (record { b_in_bounds = c.requires.i_in_bounds_2; b_in_bounds_2 = c.requires.i_in_bounds_3; b_in_bounds_3 = c.requires.i_in_bounds_4 })

pub returns : goal.returns
returns c = rw (← c.borrow_at.ensures) (record { value = c.put_kept.ensures.value; out_borrows_after = c.put_kept.ensures.out_borrows_after; out_ids_after = c.put_kept.ensures.out_ids_after; out_pool_after = c.put_kept.ensures.out_pool_after })
