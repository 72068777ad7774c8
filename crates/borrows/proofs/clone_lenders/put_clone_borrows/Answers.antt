use native.Mathlib.Omega.{arith}
use lib.ListN.{length}
use Rattle.records.specs.Decode.{Lent, manifest_in, lent_of}
use Rattle.records.specs.Layout.{borrows_laid, borrow_ids, borrow_path}
use Rattle.records.proofs.Laid.{borrows, ids, pool}
use Rattle.records.proofs.Columns.{borrow_rows, borrow_ids_long, borrow_path_long}
use Rattle.borrows.specs.Owned.{owned_of}
use Rattle.borrows.specs.Clone.{uuids_of, of_parent}
use Rattle.borrows.proofs.Poolless.{poolless}
use Rattle.borrows.proofs.Lending.{olds_room, parent_room, cloned_laid, cloned_joined, parent_is}
use Rattle.borrows.proofs.clone_lenders.put_clone_borrows.Goals as goal

pub fresh_at-u-requires : goal.fresh_at-u-requires
fresh_at-u-requires c = omega (arith, c.requires.borrows_in_bounds, c.held-n.ensures)

pub put_renewed-to-requires : goal.put_renewed-to-requires
unfolding manifest_in borrows_laid
put_renewed-to-requires c = let a = c.args in let l : Lent = lent_of a.tables in let x = manifest_in l a.m in let f = uuids_of a.fresh.now in record { borrows_in_bounds = omega (arith, c.requires.borrows_in_bounds); w_in_bounds = olds_room x a.path.now a.checkpoint f a.c borrows _ c.requires.fresh_in_bounds; w_in_bounds_2 = olds_room x a.path.now a.checkpoint f a.c ids _ c.requires.fresh_in_bounds_2; w_in_bounds_3 = olds_room x a.path.now a.checkpoint f a.c pool _ c.requires.fresh_in_bounds_3 }

pub put_parent-requires : goal.put_parent-requires
unfolding manifest_in borrows_laid
put_parent-requires c = let a = c.args in let l : Lent = lent_of a.tables in let x = manifest_in l a.m in let f = uuids_of a.fresh.now in let e = c.put_renewed-to.ensures.value in let q = parent_is l a.m a.path.now a.checkpoint f _ _ c.fresh_at-u.ensures c.held-n.ensures in rw q (record { m_in_bounds = omega (arith, c.put_renewed-to.auto.out_borrows, parent_room x a.path.now a.checkpoint f a.c borrows (length a.out_borrows.now) c.requires.fresh_in_bounds _ e); m_in_bounds_2 = omega (arith, c.put_renewed-to.auto.out_ids, parent_room x a.path.now a.checkpoint f a.c ids (length a.out_ids.now) c.requires.fresh_in_bounds_2 _ e); m_in_bounds_3 = omega (arith, c.put_renewed-to.auto.out_pool, parent_room x a.path.now a.checkpoint f a.c pool (length a.out_pool.now) c.requires.fresh_in_bounds_3 _ e) })

pub returns : goal.returns
unfolding manifest_in borrows_laid
returns c = let a = c.args in let l : Lent = lent_of a.tables in let x = manifest_in l a.m in let f = uuids_of a.fresh.now in let q = parent_is l a.m a.path.now a.checkpoint f _ _ c.fresh_at-u.ensures c.held-n.ensures in let o = of_parent a.path.now a.checkpoint c.fresh_at-u.result (owned_of (manifest_in (poolless l) a.m)) in record { out_borrows_after = cloned_laid x a.path.now a.checkpoint f a.c borrow_rows _ _ _ _ c.requires.fresh_in_bounds c.put_renewed-to.ensures.value o q c.put_renewed-to.ensures.out_borrows_after c.put_parent.ensures.out_borrows_after; out_ids_after = cloned_joined x a.path.now a.checkpoint f a.c ids borrow_ids borrow_ids_long _ _ _ _ o q c.requires.fresh_in_bounds_2 c.put_renewed-to.ensures.value c.put_renewed-to.ensures.out_ids_after c.put_parent.ensures.out_ids_after; out_pool_after = cloned_joined x a.path.now a.checkpoint f a.c pool borrow_path borrow_path_long _ _ _ _ o q c.requires.fresh_in_bounds_3 c.put_renewed-to.ensures.value c.put_renewed-to.ensures.out_pool_after c.put_parent.ensures.out_pool_after }
