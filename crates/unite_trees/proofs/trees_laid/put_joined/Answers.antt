use native.Mathlib.Omega.{arith}
use Rattle.tables.specs.Layout.{joined}
use Rattle.records.specs.Fill.{sum, view_fill, run_fill, tree_fill}
use Rattle.records.proofs.Laid.{runs, views, pool}
use Rattle.measure.specs.Within.{tree_runs}
use Rattle.emit.proofs.Laid.{room_first, room_rest}
use Rattle.emit.proofs.Columns.{runs_counted}
use Rattle.emit.proofs.Rows.{tree_order, tree_laid, tree_runs_lem, tree_views_lem, tree_bytes_lem}
use Rattle.unite_trees.specs.Joined.{tree_l0, joined_tree, numbered_tree}
use Rattle.unite_trees.specs.Rows.{trees_in}
use Rattle.unite_trees.proofs.Numbers.{numbered_fill, numbered_laid, numbered_room}
use Rattle.unite_trees.proofs.trees_laid.put_joined.Goals as goal

pub put_l0-a-requires : goal.put_l0-a-requires
unfolding numbered_tree joined_tree tree_fill
put_l0-a-requires c = record { n_in_bounds = c.requires.n_in_bounds; pool_in_bounds = room_first views c.args.c (sum view_fill (joined tree_l0 (trees_in c.args.t.now c.args.rows.now c.args.n c.args.runs.now c.args.views.now c.args.pool.now))) (sum run_fill (joined tree_runs (trees_in c.args.t.now c.args.rows.now c.args.n c.args.runs.now c.args.views.now c.args.pool.now))) _ c.requires.pool_in_bounds_2; pool_in_bounds_2 = room_first pool c.args.c (sum view_fill (joined tree_l0 (trees_in c.args.t.now c.args.rows.now c.args.n c.args.runs.now c.args.views.now c.args.pool.now))) (sum run_fill (joined tree_runs (trees_in c.args.t.now c.args.rows.now c.args.n c.args.runs.now c.args.views.now c.args.pool.now))) _ c.requires.pool_in_bounds_3 }

pub put_joined_runs-past-requires : goal.put_joined_runs-past-requires
unfolding numbered_tree joined_tree tree_fill
put_joined_runs-past-requires c = let p = c.put_l0-a.ensures.value in rw (numbered_fill c.args.left (joined tree_runs (trees_in c.args.t.now c.args.rows.now c.args.n c.args.runs.now c.args.views.now c.args.pool.now)))
    (record { n_in_bounds = c.requires.n_in_bounds; pool_len_bound = omega (arith, runs_counted (joined tree_runs (trees_in c.args.t.now c.args.rows.now c.args.n c.args.runs.now c.args.views.now c.args.pool.now)), c.requires.pool_bound); pool_in_bounds = room_rest runs c.args.c (sum view_fill (joined tree_l0 (trees_in c.args.t.now c.args.rows.now c.args.n c.args.runs.now c.args.views.now c.args.pool.now))) _ (sum run_fill (joined tree_runs (trees_in c.args.t.now c.args.rows.now c.args.n c.args.runs.now c.args.views.now c.args.pool.now))) _ p c.requires.pool_in_bounds; pool_in_bounds_2 = omega (arith, room_rest views c.args.c (sum view_fill (joined tree_l0 (trees_in c.args.t.now c.args.rows.now c.args.n c.args.runs.now c.args.views.now c.args.pool.now))) _ (sum run_fill (joined tree_runs (trees_in c.args.t.now c.args.rows.now c.args.n c.args.runs.now c.args.views.now c.args.pool.now))) _ p c.requires.pool_in_bounds_2, c.put_l0-a.auto); pool_in_bounds_3 = omega (arith, room_rest pool c.args.c (sum view_fill (joined tree_l0 (trees_in c.args.t.now c.args.rows.now c.args.n c.args.runs.now c.args.views.now c.args.pool.now))) _ (sum run_fill (joined tree_runs (trees_in c.args.t.now c.args.rows.now c.args.n c.args.runs.now c.args.views.now c.args.pool.now))) _ p c.requires.pool_in_bounds_3, c.put_l0-a.auto) })

pub tree_row-tree-requires : goal.tree_row-tree-requires
unfolding numbered_tree joined_tree tree_fill
tree_row-tree-requires c = tree_order c.args.c (numbered_tree c.args.left (joined_tree (trees_in c.args.t.now c.args.rows.now c.args.n c.args.runs.now c.args.views.now c.args.pool.now))) _ c.put_l0-a.ensures.value _ c.put_joined_runs-past.ensures.value

pub returns : goal.returns
unfolding numbered_tree joined_tree tree_fill
returns c = let p = c.put_l0-a.ensures.value in let t = (numbered_tree c.args.left (joined_tree (trees_in c.args.t.now c.args.rows.now c.args.n c.args.runs.now c.args.views.now c.args.pool.now))) in record { value = numbered_laid c.args.left (joined_tree (trees_in c.args.t.now c.args.rows.now c.args.n c.args.runs.now c.args.views.now c.args.pool.now)) c.args.c _ (tree_laid c.args.c t _ p _ c.put_joined_runs-past.ensures.value _ c.tree_row-tree.ensures); out_runs_after = tree_runs_lem c.args.c t _ p _ _ c.put_joined_runs-past.ensures.out_runs_after; out_views_after = tree_views_lem c.args.c t _ p _ _ _ (numbered_room c.args.left (joined_tree (trees_in c.args.t.now c.args.rows.now c.args.n c.args.runs.now c.args.views.now c.args.pool.now)) c.args.c views _ c.requires.pool_in_bounds_2) c.put_l0-a.ensures.out_views_after c.put_joined_runs-past.ensures.out_views_after; out_pool_after = tree_bytes_lem c.args.c t _ p _ _ _ (numbered_room c.args.left (joined_tree (trees_in c.args.t.now c.args.rows.now c.args.n c.args.runs.now c.args.views.now c.args.pool.now)) c.args.c pool _ c.requires.pool_in_bounds_3) c.put_l0-a.ensures.out_pool_after c.put_joined_runs-past.ensures.out_pool_after }
