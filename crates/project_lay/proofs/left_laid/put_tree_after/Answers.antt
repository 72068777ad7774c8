use Rattle.records.specs.Decode.{tree_in}
use Rattle.project_lay.proofs.Puts.{put_dropped, tree_room_shown, tree_room_passed, put_shown, put_passed}
use Rattle.project_lay.proofs.left_laid.put_tree_after.Goals as goal

pub project_tree_in_place-requires : goal.project_tree_in_place-requires
project_tree_in_place-requires c = let a = c.args in let whole = tree_room_shown a.pool.now a.a (tree_in a.runs.now a.views.now a.pool.now a.t) a.c _ _ _ (c.requires.t_in_bounds, (c.requires.t_in_bounds_2, c.requires.t_in_bounds_3)) _ c.in-Project.is in record { t_in_bounds = whole.0; t_in_bounds_2 = whole.1.0; t_in_bounds_3 = whole.1.1 }

pub put_tree-requires : goal.put_tree-requires
put_tree-requires c = let a = c.args in let whole = tree_room_passed a.pool.now a.a (tree_in a.runs.now a.views.now a.pool.now a.t) a.c _ _ _ (c.requires.t_in_bounds, (c.requires.t_in_bounds_2, c.requires.t_in_bounds_3)) c.in-PassThrough.is in record { t_in_bounds = whole.0; t_in_bounds_2 = whole.1.0; t_in_bounds_3 = whole.1.1 }

pub returns-in-Drop : goal.returns-in-Drop
returns-in-Drop c = let a = c.args in let whole = put_dropped a.pool.now a.a (tree_in a.runs.now a.views.now a.pool.now a.t) a.c _ _ _ _ c.in-Drop.is c.tree_row-tree.ensures in record { value = whole.0; out_runs_after = whole.1.0; out_views_after = whole.1.1.0; out_pool_after = whole.1.1.1 }

pub returns-in-Project : goal.returns-in-Project
returns-in-Project c = let a = c.args in let whole = put_shown a.pool.now a.a (tree_in a.runs.now a.views.now a.pool.now a.t) a.c _ _ _ _ _ _ _ _ c.in-Project.is (c.project_tree_in_place.ensures.value, (c.project_tree_in_place.ensures.out_runs_after, (c.project_tree_in_place.ensures.out_views_after, c.project_tree_in_place.ensures.out_pool_after))) in record { value = whole.0; out_runs_after = whole.1.0; out_views_after = whole.1.1.0; out_pool_after = whole.1.1.1 }

pub returns-in-PassThrough : goal.returns-in-PassThrough
returns-in-PassThrough c = let a = c.args in let whole = put_passed a.pool.now a.a (tree_in a.runs.now a.views.now a.pool.now a.t) a.c _ _ _ _ _ _ _ c.in-PassThrough.is (c.put_tree.ensures.value, (c.put_tree.ensures.out_runs_after, (c.put_tree.ensures.out_views_after, c.put_tree.ensures.out_pool_after))) in record { value = whole.0; out_runs_after = whole.1.0; out_views_after = whole.1.1.0; out_pool_after = whole.1.1.1 }
