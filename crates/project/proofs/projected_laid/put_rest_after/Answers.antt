use mathlib.Core.List.{[]}
use native.Mathlib.Omega.{arith}
use lib.ListN.{length}
use Rattle.ids.specs.Names.{ids_of}
use Rattle.records.specs.Decode.{name_in, borrows_in}
use Rattle.records.specs.Fill.{plus, sum, key_fill, name_keys, borrow_fill}
use Rattle.records.proofs.Laid.{borrows, ids, pool}
use Rattle.emit.proofs.Laid.{room_rest}
use Rattle.copy.proofs.Manifest.{name_past, name_row_lem, rest_borrows, rest_ids, rest_bytes}
use Rattle.prune.specs.Prune.{pruned}
use Rattle.project.proofs.projected_laid.put_rest_after.Goals as goal

pub prune_external_sst_ids-requires : goal.prune_external_sst_ids-requires
prune_external_sst_ids-requires c = let a = c.args in let n = name_in a.pool.now a.n in let bs = pruned (ids_of a.used.now) (borrows_in a.borrows.now a.ids.now a.pool.now a.w) in let e = c.put_name-laid.ensures.value in let f = sum key_fill (name_keys n) in let g = sum borrow_fill bs in let q = name_past a.c n bs _ e in record { w_in_bounds = room_rest borrows a.c f _ g _ q c.requires.w_in_bounds; w_in_bounds_2 = room_rest ids a.c f _ g _ q c.requires.w_in_bounds_2; w_in_bounds_3 = omega (arith, c.put_name-laid.auto, room_rest pool a.c f _ g (length a.out_pool.now) q c.requires.w_in_bounds_3) }

pub returns : goal.returns
returns c = let a = c.args in let n = name_in a.pool.now a.n in let bs = pruned (ids_of a.used.now) (borrows_in a.borrows.now a.ids.now a.pool.now a.w) in let e = c.put_name-laid.ensures.value in let w = c.put_name-laid.ensures.out_pool_after in record { value = name_row_lem a.c n bs _ e; out_borrows_after = rest_borrows a.c n bs _ e _ _ [] c.prune_external_sst_ids.ensures.out_borrows_after; out_ids_after = rest_ids a.c n bs _ e _ _ [] c.prune_external_sst_ids.ensures.out_ids_after; out_pool_after = rest_bytes a.c n bs _ e _ _ _ (plus (sum key_fill (name_keys n)) (sum borrow_fill bs)) c.requires.w_in_bounds_3 w c.prune_external_sst_ids.ensures.out_pool_after }
