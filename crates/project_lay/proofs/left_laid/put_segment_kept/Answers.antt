use mathlib.Core.Path.{ap}
use native.Mathlib.Omega.{arith}
use lib.ListN.{length}
use Rattle.records.specs.Decode.{segment_in}
use Rattle.records.specs.Fill.{plus, segments, key_fill, tree_fill, segment_fill}
use Rattle.records.specs.declared.Fill.{Fill}
use Rattle.records.proofs.Laid.{runs, views, pool}
use Rattle.emit.proofs.Laid.{room_rest}
use Rattle.emit.proofs.Rows.{segment_start, segment_past, segment_row_lem, segment_runs_lem, segment_views_lem, segment_bytes_lem}
use Rattle.project_ranges.specs.Args.{action_in}
use Rattle.project_lay.specs.Steps.{kept_as}
use Rattle.project_lay.proofs.left_laid.put_segment_kept.Goals as goal

pub put_prefix-to-requires : goal.put_prefix-to-requires
unfolding segment_in segment_fill
put_prefix-to-requires c = (omega (arith, c.requires.s_in_bounds), omega (arith, c.requires.s_in_bounds_4))

pub put_tree_after-laid-requires : goal.put_tree_after-laid-requires
unfolding segment_in segment_fill
put_tree_after-laid-requires c = let a = c.args in let s = kept_as (action_in a.pool.now a.a) (segment_in a.runs.now a.views.now a.pool.now a.s) in let f = plus (segments 1) (key_fill s.prefix) in let g = tree_fill s.tree in let p = segment_start a.c s _ c.put_prefix-to.ensures.value in record { t_in_bounds = room_rest runs a.c f _ g _ p (omega (arith, c.requires.s_in_bounds_2)); t_in_bounds_2 = room_rest views a.c f _ g _ p (omega (arith, c.requires.s_in_bounds_3)); t_in_bounds_3 = omega (arith, room_rest pool a.c f _ g (length a.out_pool.now) p (omega (arith, c.requires.s_in_bounds_4)), c.put_prefix-to.auto) }

pub overflow_sub-prefix : goal.overflow_sub-prefix
unfolding segment_in segment_fill
overflow_sub-prefix c = omega (arith, ap (λ (f : Fill). f.bytes) c.put_prefix-to.ensures.value)

pub put_segment_row-requires : goal.put_segment_row-requires
unfolding segment_in segment_fill
put_segment_row-requires c = omega (arith, c.requires.s_in_bounds)

pub returns : goal.returns
unfolding segment_in segment_fill
returns c = let a = c.args in let s = kept_as (action_in a.pool.now a.a) (segment_in a.runs.now a.views.now a.pool.now a.s) in let p = c.put_prefix-to.ensures.value in let e = c.put_tree_after-laid.ensures.value in record { value = segment_past a.c s _ p _ e; out_segments_after = segment_row_lem a.c s _ p _ e _ _ c.put_segment_row.ensures; out_runs_after = segment_runs_lem a.c s _ p _ _ c.put_tree_after-laid.ensures.out_runs_after; out_views_after = segment_views_lem a.c s _ p _ _ c.put_tree_after-laid.ensures.out_views_after; out_pool_after = segment_bytes_lem a.c s _ p _ _ _ c.requires.s_in_bounds_4 c.put_prefix-to.ensures.out_pool_after c.put_tree_after-laid.ensures.out_pool_after }
