use native.Mathlib.Omega.{arith}
use Rattle.records.specs.Decode.{tree_in}
use Rattle.records.specs.Fill.{sum, view_fill, run_fill, tree_fill}
use Rattle.records.proofs.Laid.{runs, views, pool}
use Rattle.emit.proofs.Laid.{room_first, room_rest}
use Rattle.emit.proofs.Rows.{tree_order, tree_laid, tree_runs_lem, tree_views_lem, tree_bytes_lem}
use Rattle.project_views.specs.Reach.{reach_of}
use Rattle.project_views.specs.Shown.{tree_shown}
use Rattle.project_views.proofs.views_laid.project_tree_in_place.Goals as goal

pub filter_view_handles-a-requires : goal.filter_view_handles-a-requires
unfolding tree_shown tree_in tree_fill
filter_view_handles-a-requires c = let a = c.args in let t = tree_shown (reach_of a.pool.now a.r) (tree_in a.runs.now a.views.now a.pool.now a.t) in record { w_in_bounds = room_first views a.c (sum view_fill t.l0) (sum run_fill t.runs) _ c.requires.t_in_bounds_2; w_in_bounds_2 = room_first pool a.c (sum view_fill t.l0) (sum run_fill t.runs) _ c.requires.t_in_bounds_3 }

pub put_runs_shown-past-requires : goal.put_runs_shown-past-requires
unfolding tree_shown tree_in tree_fill
put_runs_shown-past-requires c = let a = c.args in let t = tree_shown (reach_of a.pool.now a.r) (tree_in a.runs.now a.views.now a.pool.now a.t) in let f = sum view_fill t.l0 in let g = sum run_fill t.runs in let p = c.filter_view_handles-a.ensures.value in record { w_in_bounds = room_rest runs a.c f _ g _ p c.requires.t_in_bounds; w_in_bounds_2 = omega (arith, room_rest views a.c f _ g _ p c.requires.t_in_bounds_2, c.filter_view_handles-a.auto); w_in_bounds_3 = omega (arith, room_rest pool a.c f _ g _ p c.requires.t_in_bounds_3, c.filter_view_handles-a.auto) }

pub tree_row-tree-requires : goal.tree_row-tree-requires
unfolding tree_shown tree_in tree_fill
tree_row-tree-requires c = let a = c.args in let t = tree_shown (reach_of a.pool.now a.r) (tree_in a.runs.now a.views.now a.pool.now a.t) in tree_order a.c t _ c.filter_view_handles-a.ensures.value _ c.put_runs_shown-past.ensures.value

pub returns : goal.returns
unfolding tree_shown tree_in tree_fill
returns c = let a = c.args in let t = tree_shown (reach_of a.pool.now a.r) (tree_in a.runs.now a.views.now a.pool.now a.t) in let p = c.filter_view_handles-a.ensures.value in record { value = tree_laid a.c t _ p _ c.put_runs_shown-past.ensures.value _ c.tree_row-tree.ensures; out_runs_after = tree_runs_lem a.c t _ p _ _ c.put_runs_shown-past.ensures.out_runs_after; out_views_after = tree_views_lem a.c t _ p _ _ _ c.requires.t_in_bounds_2 c.filter_view_handles-a.ensures.out_views_after c.put_runs_shown-past.ensures.out_views_after; out_pool_after = tree_bytes_lem a.c t _ p _ _ _ c.requires.t_in_bounds_3 c.filter_view_handles-a.ensures.out_pool_after c.put_runs_shown-past.ensures.out_pool_after }
