use Rattle.borrows.specs.Clone.{uuids_of}
use Rattle.unite_groups.proofs.Lent.{lent_row}
use Rattle.unite_groups.proofs.group_borrows_laid.put_group_at.Goals as goal

pub put_borrow-requires : goal.put_borrow-requires
put_borrow-requires c = rw (lent_row c.args.groups.now c.args.work.now c.args.pool.now (uuids_of c.args.fresh.now) c.args.i _ _ c.group_at-h.ensures c.fresh_or_zero-u.ensures) (record { b_in_bounds = c.requires.i_in_bounds_2; b_in_bounds_2 = c.requires.i_in_bounds_3; b_in_bounds_3 = c.requires.i_in_bounds_4 })

pub returns : goal.returns
returns c = record { value = rw (lent_row c.args.groups.now c.args.work.now c.args.pool.now (uuids_of c.args.fresh.now) c.args.i _ _ c.group_at-h.ensures c.fresh_or_zero-u.ensures) at c.put_borrow.ensures.value; out_borrows_after = rw (lent_row c.args.groups.now c.args.work.now c.args.pool.now (uuids_of c.args.fresh.now) c.args.i _ _ c.group_at-h.ensures c.fresh_or_zero-u.ensures) at c.put_borrow.ensures.out_borrows_after; out_ids_after = rw (lent_row c.args.groups.now c.args.work.now c.args.pool.now (uuids_of c.args.fresh.now) c.args.i _ _ c.group_at-h.ensures c.fresh_or_zero-u.ensures) at c.put_borrow.ensures.out_ids_after; out_pool_after = rw (lent_row c.args.groups.now c.args.work.now c.args.pool.now (uuids_of c.args.fresh.now) c.args.i _ _ c.group_at-h.ensures c.fresh_or_zero-u.ensures) at c.put_borrow.ensures.out_pool_after }
