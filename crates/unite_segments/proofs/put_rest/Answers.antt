use mathlib.Core.List.{[]}
use native.Mathlib.Omega.{arith}
use lib.ListN.{length}
use Rattle.records.specs.Model.{named}
use Rattle.records.specs.Decode.{bytes_in}
use Rattle.records.specs.Fill.{plus, sum, key_fill, name_keys}
use Rattle.records.proofs.Laid.{borrows, ids, pool}
use Rattle.emit.proofs.Laid.{room_rest}
use Rattle.copy.proofs.Manifest.{name_past, name_row_lem, rest_borrows, rest_ids, rest_bytes}
use Rattle.borrows.specs.Clone.{uuids_of}
use Rattle.unite_groups.specs.Chosen.{lent_from, member_fill}
use Rattle.unite_groups.specs.Rows.{members_in}
use Rattle.unite_segments.proofs.put_rest.Goals as goal

pub put_name-laid-requires : goal.put_name-laid-requires
put_name-laid-requires c = omega (arith, c.requires.count_in_bounds_4)

pub put_groups-requires : goal.put_groups-requires
put_groups-requires c = let a = c.args in let n = named (bytes_in a.pool.now a.name) in let ms = members_in a.groups.now a.sets.now a.pool.now a.count in let bs = lent_from (uuids_of a.fresh.now) 0 ms in let e = c.put_name-laid.ensures.value in let f = sum key_fill (name_keys n) in let g = sum member_fill ms in let q = name_past a.c n bs _ e in record { n_in_bounds = c.requires.count_in_bounds; n_in_bounds_2 = room_rest borrows a.c f _ g _ q c.requires.count_in_bounds_2; n_in_bounds_3 = room_rest ids a.c f _ g _ q c.requires.count_in_bounds_3; n_in_bounds_4 = omega (arith, c.put_name-laid.auto, room_rest pool a.c f _ g (length a.out_pool.now) q c.requires.count_in_bounds_4) }

pub shape_of-out_borrows : goal.shape_of-out_borrows
shape_of-out_borrows c = omega (arith, c.put_groups.auto)

pub shape_of-out_ids : goal.shape_of-out_ids
shape_of-out_ids c = omega (arith, c.put_groups.auto)

pub shape_of-out_pool : goal.shape_of-out_pool
shape_of-out_pool c = omega (arith, c.put_name-laid.auto, c.put_groups.auto)

pub returns : goal.returns
returns c = let a = c.args in let n = named (bytes_in a.pool.now a.name) in let ms = members_in a.groups.now a.sets.now a.pool.now a.count in let bs = lent_from (uuids_of a.fresh.now) 0 ms in let e = c.put_name-laid.ensures.value in let w = c.put_name-laid.ensures.out_pool_after in record { value = name_row_lem a.c n bs _ e; out_borrows_after = rest_borrows a.c n bs _ e _ _ [] c.put_groups.ensures.out_borrows_after; out_ids_after = rest_ids a.c n bs _ e _ _ [] c.put_groups.ensures.out_ids_after; out_pool_after = rest_bytes a.c n bs _ e _ _ _ (plus (sum key_fill (name_keys n)) (sum member_fill ms)) c.requires.count_in_bounds_4 w c.put_groups.ensures.out_pool_after }
