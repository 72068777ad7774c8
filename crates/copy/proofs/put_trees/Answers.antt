use mathlib.Core.Path.{◌∙◌}
use mathlib.Core.List.{[]}
use native.Mathlib.Omega.{arith}
use lib.ListN.{length}
use Rattle.records.specs.Decode.{tree_in, segments_in}
use Rattle.records.specs.Fill.{plus, sum, tree_fill, segment_fill}
use Rattle.records.proofs.Laid.{segments, runs, views, pool}
use Rattle.emit.proofs.Laid.{room_rest}
use Rattle.copy.proofs.Manifest.{tree_past, trees_laid, trees_segments, trees_runs, trees_views, trees_bytes}
use Rattle.copy.proofs.put_trees.Goals as goal

pub put_tree-laid-requires : goal.put_tree-laid-requires
put_tree-laid-requires c = record { t_in_bounds = omega (arith, c.requires.w_in_bounds_2); t_in_bounds_2 = omega (arith, c.requires.w_in_bounds_3); t_in_bounds_3 = omega (arith, c.requires.w_in_bounds_4) }

pub put_segments-past-requires : goal.put_segments-past-requires
put_segments-past-requires c = let a = c.args in let t = tree_in a.runs.now a.views.now a.pool.now a.t in let ss = segments_in a.segments.now a.runs.now a.views.now a.pool.now a.w in let e = c.put_tree-laid.ensures.value in let f = tree_fill t in let g = sum segment_fill ss in let q = tree_past a.c t ss _ e in record { w_in_bounds = room_rest segments a.c f _ g _ q c.requires.w_in_bounds; w_in_bounds_2 = omega (arith, c.put_tree-laid.auto.out_runs, room_rest runs a.c f _ g (length a.out_runs.now) q c.requires.w_in_bounds_2); w_in_bounds_3 = omega (arith, c.put_tree-laid.auto.out_views, room_rest views a.c f _ g (length a.out_views.now) q c.requires.w_in_bounds_3); w_in_bounds_4 = omega (arith, c.put_tree-laid.auto.out_pool, room_rest pool a.c f _ g (length a.out_pool.now) q c.requires.w_in_bounds_4) }

pub shape_of-out_segments : goal.shape_of-out_segments
shape_of-out_segments c = c.put_segments-past.auto.out_segments

pub shape_of-out_runs : goal.shape_of-out_runs
shape_of-out_runs c = c.put_segments-past.auto.out_runs ∙ c.put_tree-laid.auto.out_runs

pub shape_of-out_views : goal.shape_of-out_views
shape_of-out_views c = c.put_segments-past.auto.out_views ∙ c.put_tree-laid.auto.out_views

pub shape_of-out_pool : goal.shape_of-out_pool
shape_of-out_pool c = c.put_segments-past.auto.out_pool ∙ c.put_tree-laid.auto.out_pool

pub returns : goal.returns
returns c = let a = c.args in let t = tree_in a.runs.now a.views.now a.pool.now a.t in let ss = segments_in a.segments.now a.runs.now a.views.now a.pool.now a.w in let e = c.put_tree-laid.ensures.value in let f = plus (tree_fill t) (sum segment_fill ss) in record { value = trees_laid a.c t ss _ e _ c.put_segments-past.ensures.value; out_segments_after = trees_segments a.c t ss _ e _ _ [] c.put_segments-past.ensures.out_segments_after; out_runs_after = trees_runs a.c t ss _ e _ _ _ f c.requires.w_in_bounds_2 c.put_tree-laid.ensures.out_runs_after c.put_segments-past.ensures.out_runs_after; out_views_after = trees_views a.c t ss _ e _ _ _ f c.requires.w_in_bounds_3 c.put_tree-laid.ensures.out_views_after c.put_segments-past.ensures.out_views_after; out_pool_after = trees_bytes a.c t ss _ e _ _ _ f c.requires.w_in_bounds_4 c.put_tree-laid.ensures.out_pool_after c.put_segments-past.ensures.out_pool_after }
