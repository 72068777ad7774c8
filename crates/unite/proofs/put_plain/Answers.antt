use native.Mathlib.Omega.{arith}
use mathlib.Core.Path.{sym, ap}
use Rattle.emit.specs.declared.LaidTree.{LaidTree}
use Rattle.borrows.specs.Clone.{uuids_of}
use Rattle.unite_trees.specs.Joined.{joined_tree}
use Rattle.unite_trees.specs.Rows.{trees_in}
use Rattle.unite_groups.specs.Rows.{members_in}
use Rattle.unite.proofs.Plain.{members_long, plain_row, plain_views, plain_runs, plain_borrows, plain_ids, plain_pool, room_borrows, room_ids, room_pool}
use Rattle.unite.proofs.put_plain.Goals as goal

pub put_joined-laid-requires : goal.put_joined-laid-requires
put_joined-laid-requires c = let a = c.args in let t = joined_tree (trees_in a.sources.now a.order.now a.n a.runs.now a.views.now a.pool.now) in let ms = members_in a.groups.now a.sets.now a.pool.now a.count in let e = c.no_fill-c.ensures in record { n_in_bounds = c.requires.n_in_bounds; pool_bound = omega (arith, c.requires.left_value); pool_in_bounds = rw e (omega (arith, c.requires.pool_in_bounds)); pool_in_bounds_2 = rw e (omega (arith, c.requires.pool_in_bounds_2)); pool_in_bounds_3 = rw e (omega (arith, c.requires.count_in_bounds_4)) }

pub put_groups-requires : goal.put_groups-requires
put_groups-requires c = let a = c.args in let t = joined_tree (trees_in a.sources.now a.order.now a.n a.runs.now a.views.now a.pool.now) in let ms = members_in a.groups.now a.sets.now a.pool.now a.count in let e = c.no_fill-c.ensures in let q = ap (λ (z : LaidTree). z.past) c.put_joined-laid.ensures.value in record { n_in_bounds = c.requires.count_in_bounds; n_in_bounds_2 = room_borrows t _ _ e q _ _ c.requires.count_in_bounds_2; n_in_bounds_3 = room_ids t _ _ e q _ _ c.requires.count_in_bounds_3; n_in_bounds_4 = omega (arith, c.put_joined-laid.auto, room_pool t _ _ e q _ _ c.requires.count_in_bounds_4) }

pub shape_of-out_views : goal.shape_of-out_views
shape_of-out_views c = omega (arith, c.put_joined-laid.auto)

pub shape_of-out_runs : goal.shape_of-out_runs
shape_of-out_runs c = omega (arith, c.put_joined-laid.auto)

pub shape_of-out_pool : goal.shape_of-out_pool
shape_of-out_pool c = omega (arith, c.put_joined-laid.auto, c.put_groups.auto)

pub returns : goal.returns
returns c = let a = c.args in let t = joined_tree (trees_in a.sources.now a.order.now a.n a.runs.now a.views.now a.pool.now) in let ms = members_in a.groups.now a.sets.now a.pool.now a.count in let e = c.no_fill-c.ensures in let q = ap (λ (z : LaidTree). z.past) c.put_joined-laid.ensures.value in record { value = plain_row t ms (uuids_of a.fresh.now) a.seq a.left c.requires.left_value _ e _ _ _ (ap (λ (z : LaidTree). z.tree) c.put_joined-laid.ensures.value) (sym (members_long a.groups.now a.sets.now a.pool.now a.count)) c.united_row.ensures; out_views_after = plain_views t ms (uuids_of a.fresh.now) a.seq a.left c.requires.left_value _ e _ _ c.put_joined-laid.ensures.out_views_after; out_runs_after = plain_runs t ms (uuids_of a.fresh.now) a.seq a.left c.requires.left_value _ e _ _ c.put_joined-laid.ensures.out_runs_after; out_borrows_after = plain_borrows t ms (uuids_of a.fresh.now) a.seq a.left c.requires.left_value _ e _ q _ _ c.put_groups.ensures.out_borrows_after; out_ids_after = plain_ids t ms (uuids_of a.fresh.now) a.seq a.left c.requires.left_value _ e _ q _ _ c.put_groups.ensures.out_ids_after; out_pool_after = plain_pool t ms (uuids_of a.fresh.now) a.seq a.left c.requires.left_value _ e _ q _ _ _ c.put_joined-laid.ensures.out_pool_after c.put_groups.ensures.out_pool_after }
