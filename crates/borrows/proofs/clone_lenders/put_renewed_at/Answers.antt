use Rattle.borrows.proofs.Renewing.{renewed_row}
use Rattle.borrows.proofs.clone_lenders.put_renewed_at.Goals as goal

pub borrow_at-b-requires : goal.borrow_at-b-requires
borrow_at-b-requires c = c.requires.i_in_bounds

pub fresh_at-u-requires : goal.fresh_at-u-requires
fresh_at-u-requires c = c.requires.n_in_bounds

pub put_borrow-requires : goal.put_borrow-requires
put_borrow-requires c = let a = c.args in let e = renewed_row a.borrows.now a.ids.now a.pool.now a.i _ _ _ _ c.renew-row.ensures c.fresh_at-u.ensures c.borrow_at-b.ensures in rw e (record { b_in_bounds = c.requires.n_in_bounds_2; b_in_bounds_2 = c.requires.n_in_bounds_3; b_in_bounds_3 = c.requires.n_in_bounds_4 })

pub returns : goal.returns
returns c = let a = c.args in let e = renewed_row a.borrows.now a.ids.now a.pool.now a.i _ _ _ _ c.renew-row.ensures c.fresh_at-u.ensures c.borrow_at-b.ensures in record {
  value = rw e at c.put_borrow.ensures.value;
  out_borrows_after = rw e at c.put_borrow.ensures.out_borrows_after;
  out_ids_after = rw e at c.put_borrow.ensures.out_ids_after;
  out_pool_after = rw e at c.put_borrow.ensures.out_pool_after;
}
