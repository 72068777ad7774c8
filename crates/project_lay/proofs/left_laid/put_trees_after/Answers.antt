use mathlib.Core.List.{[]}
use native.Mathlib.Omega.{arith}
use lib.ListN.{length}
use Rattle.records.specs.Decode.{tree_in, segments_in}
use Rattle.records.specs.Fill.{plus, sum, tree_fill, segment_fill}
use Rattle.records.proofs.Laid.{segments, runs, views, pool}
use Rattle.emit.proofs.Laid.{room_rest}
use Rattle.copy.proofs.Manifest.{tree_past, trees_laid, trees_segments, trees_runs, trees_views, trees_bytes}
use Rattle.project_ranges.specs.Action.{action_of}
use Rattle.project_ranges.specs.Args.{config_in}
use Rattle.project_lay.specs.After.{tree_after, segments_after}
use Rattle.project_lay.proofs.Adds.{tree_is}
use Rattle.project_lay.proofs.Puts.{tree_room_as, tree_laid_as}
use Rattle.project_lay.proofs.left_laid.put_trees_after.Goals as goal

pub put_tree_after-laid-requires : goal.put_tree_after-laid-requires
put_tree_after-laid-requires c = let a = c.args in let t = tree_after (action_of (config_in a.pool.now a.config a.own.now) 0 []) (tree_in a.runs.now a.views.now a.pool.now a.t) in let ss = segments_after (config_in a.pool.now a.config a.own.now) 1 (segments_in a.segments.now a.runs.now a.views.now a.pool.now a.w) in let whole = tree_room_as _ t (tree_is a.pool.now (config_in a.pool.now a.config a.own.now) c.resolve_segment_action-a.result (tree_in a.runs.now a.views.now a.pool.now a.t) c.resolve_segment_action-a.ensures) a.c _ _ _ (omega (arith, c.requires.w_in_bounds_2), (omega (arith, c.requires.w_in_bounds_3), omega (arith, c.requires.w_in_bounds_4))) in record { t_in_bounds = whole.0; t_in_bounds_2 = whole.1.0; t_in_bounds_3 = whole.1.1 }

pub put_segments_after-past-requires : goal.put_segments_after-past-requires
put_segments_after-past-requires c = let a = c.args in let t = tree_after (action_of (config_in a.pool.now a.config a.own.now) 0 []) (tree_in a.runs.now a.views.now a.pool.now a.t) in let ss = segments_after (config_in a.pool.now a.config a.own.now) 1 (segments_in a.segments.now a.runs.now a.views.now a.pool.now a.w) in let e = (tree_laid_as _ t (tree_is a.pool.now (config_in a.pool.now a.config a.own.now) c.resolve_segment_action-a.result (tree_in a.runs.now a.views.now a.pool.now a.t) c.resolve_segment_action-a.ensures) a.c _ _ _ _ _ _ _ (c.put_tree_after-laid.ensures.value, (c.put_tree_after-laid.ensures.out_runs_after, (c.put_tree_after-laid.ensures.out_views_after, c.put_tree_after-laid.ensures.out_pool_after)))).0 in let f = tree_fill t in let g = sum segment_fill ss in let q = tree_past a.c t ss _ e in record { w_in_bounds = room_rest segments a.c f _ g _ q c.requires.w_in_bounds; w_in_bounds_2 = omega (arith, c.put_tree_after-laid.auto, room_rest runs a.c f _ g (length a.out_runs.now) q c.requires.w_in_bounds_2); w_in_bounds_3 = omega (arith, c.put_tree_after-laid.auto, room_rest views a.c f _ g (length a.out_views.now) q c.requires.w_in_bounds_3); w_in_bounds_4 = omega (arith, c.put_tree_after-laid.auto, room_rest pool a.c f _ g (length a.out_pool.now) q c.requires.w_in_bounds_4) }

pub returns : goal.returns
returns c = let a = c.args in let t = tree_after (action_of (config_in a.pool.now a.config a.own.now) 0 []) (tree_in a.runs.now a.views.now a.pool.now a.t) in let ss = segments_after (config_in a.pool.now a.config a.own.now) 1 (segments_in a.segments.now a.runs.now a.views.now a.pool.now a.w) in let z = tree_laid_as _ t (tree_is a.pool.now (config_in a.pool.now a.config a.own.now) c.resolve_segment_action-a.result (tree_in a.runs.now a.views.now a.pool.now a.t) c.resolve_segment_action-a.ensures) a.c _ _ _ _ _ _ _ (c.put_tree_after-laid.ensures.value, (c.put_tree_after-laid.ensures.out_runs_after, (c.put_tree_after-laid.ensures.out_views_after, c.put_tree_after-laid.ensures.out_pool_after))) in let e = z.0 in let w = z.1 in let f = plus (tree_fill t) (sum segment_fill ss) in record { value = trees_laid a.c t ss _ e _ c.put_segments_after-past.ensures.value; out_segments_after = trees_segments a.c t ss _ e _ _ [] c.put_segments_after-past.ensures.out_segments_after; out_runs_after = trees_runs a.c t ss _ e _ _ _ f c.requires.w_in_bounds_2 w.0 c.put_segments_after-past.ensures.out_runs_after; out_views_after = trees_views a.c t ss _ e _ _ _ f c.requires.w_in_bounds_3 w.1.0 c.put_segments_after-past.ensures.out_views_after; out_pool_after = trees_bytes a.c t ss _ e _ _ _ f c.requires.w_in_bounds_4 w.1.1 c.put_segments_after-past.ensures.out_pool_after }
