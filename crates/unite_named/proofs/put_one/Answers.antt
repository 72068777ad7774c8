use mathlib.Core.Path.{ap}
use native.Mathlib.Omega.{arith}
use lib.ListN.{length}
use Rattle.records.specs.Decode.{bytes_in}
use Rattle.records.specs.Fill.{plus, segments, key_fill, tree_fill, segment_fill}
use Rattle.records.specs.declared.Fill.{Fill}
use Rattle.records.proofs.Laid.{runs, views, pool}
use Rattle.emit.proofs.Laid.{room_rest}
use Rattle.emit.proofs.Rows.{segment_start, segment_past, segment_row_lem, segment_runs_lem, segment_views_lem, segment_bytes_lem}
use Rattle.unite_trees.specs.Rows.{trees_in}
use Rattle.unite_named.specs.Steps.{joined_as, numbered_as}
use Rattle.unite_named.proofs.Laying.{plain_room, numbered_past}
use Rattle.unite_named.proofs.put_one.Goals as goal

pub put_prefix-a-requires : goal.put_prefix-a-requires
unfolding segment_fill
put_prefix-a-requires c = let a = c.args in let h = plain_room a.left (joined_as (bytes_in a.pool.now a.p) (trees_in a.segments.now a.rows.now a.n a.runs.now a.views.now a.pool.now)) a.c _ _ _ _ (c.requires.pool_in_bounds, (c.requires.pool_in_bounds_2, (c.requires.pool_in_bounds_3, c.requires.pool_in_bounds_4))) in (omega (arith, h.0), omega (arith, h.1.1.1))

pub put_joined-laid-requires : goal.put_joined-laid-requires
unfolding segment_fill
put_joined-laid-requires c = let a = c.args in let h = plain_room a.left (joined_as (bytes_in a.pool.now a.p) (trees_in a.segments.now a.rows.now a.n a.runs.now a.views.now a.pool.now)) a.c _ _ _ _ (c.requires.pool_in_bounds, (c.requires.pool_in_bounds_2, (c.requires.pool_in_bounds_3, c.requires.pool_in_bounds_4))) in let s = (joined_as (bytes_in a.pool.now a.p) (trees_in a.segments.now a.rows.now a.n a.runs.now a.views.now a.pool.now)) in let f = plus (segments 1) (key_fill s.prefix) in let g = tree_fill s.tree in let e = segment_start a.c s _ c.put_prefix-a.ensures.value in record { n_in_bounds = c.requires.n_in_bounds; pool_bound = c.requires.pool_bound; pool_in_bounds = room_rest runs a.c f _ g _ e (omega (arith, h.1.0)); pool_in_bounds_2 = room_rest views a.c f _ g _ e (omega (arith, h.1.1.0)); pool_in_bounds_3 = omega (arith, room_rest pool a.c f _ g (length a.out_pool.now) e (omega (arith, h.1.1.1)), c.put_prefix-a.auto) }

pub overflow_sub-prefix : goal.overflow_sub-prefix
unfolding segment_fill
overflow_sub-prefix c = omega (arith, ap (λ (f : Fill). f.bytes) c.put_prefix-a.ensures.value)

pub put_segment_row-requires : goal.put_segment_row-requires
unfolding segment_fill
put_segment_row-requires c = let a = c.args in let h = plain_room a.left (joined_as (bytes_in a.pool.now a.p) (trees_in a.segments.now a.rows.now a.n a.runs.now a.views.now a.pool.now)) a.c _ _ _ _ (c.requires.pool_in_bounds, (c.requires.pool_in_bounds_2, (c.requires.pool_in_bounds_3, c.requires.pool_in_bounds_4))) in omega (arith, h.0)

pub returns : goal.returns
unfolding segment_fill
returns c = let a = c.args in let s = (numbered_as a.left (joined_as (bytes_in a.pool.now a.p) (trees_in a.segments.now a.rows.now a.n a.runs.now a.views.now a.pool.now))) in let p = c.put_prefix-a.ensures.value in let e = numbered_past a.left (joined_as (bytes_in a.pool.now a.p) (trees_in a.segments.now a.rows.now a.n a.runs.now a.views.now a.pool.now)) a.c _ _ c.put_joined-laid.ensures.value in record { value = segment_past a.c s _ p _ e; out_segments_after = segment_row_lem a.c s _ p _ e _ _ c.put_segment_row.ensures; out_runs_after = segment_runs_lem a.c s _ p _ _ c.put_joined-laid.ensures.out_runs_after; out_views_after = segment_views_lem a.c s _ p _ _ c.put_joined-laid.ensures.out_views_after; out_pool_after = segment_bytes_lem a.c s _ p _ _ _ c.requires.pool_in_bounds_4 c.put_prefix-a.ensures.out_pool_after c.put_joined-laid.ensures.out_pool_after }
