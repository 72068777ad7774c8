use mathlib.Core.List.{[]}
use native.Mathlib.Omega.{arith}
use lib.ListN.{length}
use Rattle.records.specs.Decode.{tree_in, segments_in}
use Rattle.records.specs.Fill.{plus, sum, tree_fill, segment_fill}
use Rattle.records.proofs.Laid.{segments, runs, views, pool}
use Rattle.insert.proofs.Front.{trees_room, trees_laid, trees_segments, trees_runs, trees_views, trees_bytes}
use Rattle.segments.specs.Insert.{new_segment, put}
use Rattle.insert.proofs.with_one_more.put_trees_with.Goals as goal

pub put_tree-laid-requires : goal.put_tree-laid-requires
put_tree-laid-requires c = record { t_in_bounds = omega (arith, c.requires.w_in_bounds_2); t_in_bounds_2 = omega (arith, c.requires.w_in_bounds_3); t_in_bounds_3 = omega (arith, c.requires.w_in_bounds_4) }

pub put_segments_with-past-requires : goal.put_segments_with-past-requires
put_segments_with-past-requires c = let a = c.args in let t = tree_in a.runs.now a.views.now a.pool.now a.t in let ss = put a.i (new_segment a.prefix.now) (segments_in a.segments.now a.runs.now a.views.now a.pool.now a.w) in let e = c.put_tree-laid.ensures.value in let g = sum segment_fill ss in record { i_bound = c.requires.i_bound; w_in_bounds = trees_room t ss _ e segments g _ c.requires.w_in_bounds; w_in_bounds_2 = omega (arith, c.put_tree-laid.auto.out_runs, trees_room t ss _ e runs g (length a.out_runs.now) c.requires.w_in_bounds_2); w_in_bounds_3 = omega (arith, c.put_tree-laid.auto.out_views, trees_room t ss _ e views g (length a.out_views.now) c.requires.w_in_bounds_3); w_in_bounds_4 = omega (arith, c.put_tree-laid.auto.out_pool, trees_room t ss _ e pool g (length a.out_pool.now) c.requires.w_in_bounds_4) }

pub returns : goal.returns
returns c = let a = c.args in let t = tree_in a.runs.now a.views.now a.pool.now a.t in let ss = put a.i (new_segment a.prefix.now) (segments_in a.segments.now a.runs.now a.views.now a.pool.now a.w) in let e = c.put_tree-laid.ensures.value in let f = plus (tree_fill t) (sum segment_fill ss) in record { value = trees_laid t ss _ e _ c.put_segments_with-past.ensures.value; out_segments_after = trees_segments t ss _ e _ _ [] c.put_segments_with-past.ensures.out_segments_after; out_runs_after = trees_runs t ss _ e _ _ _ f (omega (arith, c.requires.w_in_bounds_2)) c.put_tree-laid.ensures.out_runs_after c.put_segments_with-past.ensures.out_runs_after; out_views_after = trees_views t ss _ e _ _ _ f (omega (arith, c.requires.w_in_bounds_3)) c.put_tree-laid.ensures.out_views_after c.put_segments_with-past.ensures.out_views_after; out_pool_after = trees_bytes t ss _ e _ _ _ f (omega (arith, c.requires.w_in_bounds_4)) c.put_tree-laid.ensures.out_pool_after c.put_segments_with-past.ensures.out_pool_after }
