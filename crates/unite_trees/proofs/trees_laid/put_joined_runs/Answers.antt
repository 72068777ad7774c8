use native.Mathlib.Numerals.{add-one}
use lib.Arith.{sub_dec}
use mathlib.Core.Path.{ap, ◌∙◌}
use native.Mathlib.Omega.{arith}
use Rattle.tables.specs.Layout.{up_to, joined}
use Rattle.records.specs.Fill.{plus}
use Rattle.records.specs.Layout.{runs_laid, runs_views_laid}
use Rattle.measure.specs.Within.{tree_runs}
use Rattle.emit.proofs.Laid.{walk_none, walk_more, walk_all_lem, grown_none, grown_room, grown_more, grown_all, joined_all}
use Rattle.unite_trees.specs.Joined.{numbered}
use Rattle.unite_trees.specs.Rows.{trees_in}
use Rattle.unite_trees.specs.Steps.{tree_of}
use Rattle.unite_trees.proofs.Numbers.{numbered_at, numbered_pieces}
use Rattle.unite_trees.proofs.Parts.{runs_fill_is, runs_rows_are, runs_views_are, runs_bytes_are, laid_so_far, left_now, part_within}
use Rattle.unite_trees.proofs.trees_laid.put_joined_runs.Goals as goal

pub loop-k-init : goal.loop-k-init
unfolding trees_in runs_laid runs_views_laid
loop-k-init c = let f = runs_fill_is (numbered c.args.left (joined tree_runs (up_to (tree_of c.args.t.now c.args.rows.now c.args.runs.now c.args.views.now c.args.pool.now) c.args.n))) (up_to (numbered_at c.args.left (tree_of c.args.t.now c.args.rows.now c.args.runs.now c.args.views.now c.args.pool.now)) c.args.n) (numbered_pieces c.args.left (tree_of c.args.t.now c.args.rows.now c.args.runs.now c.args.views.now c.args.pool.now) c.args.n) in (walk_none, grown_none (rw f c.requires.pool_in_bounds), grown_none (rw f c.requires.pool_in_bounds_2), grown_none (rw f c.requires.pool_in_bounds_3))

pub overflow_sub-rest : goal.overflow_sub-rest
unfolding trees_in runs_laid runs_views_laid
overflow_sub-rest c = omega (arith, laid_so_far c.args.left c.args.n (tree_of c.args.t.now c.args.rows.now c.args.runs.now c.args.views.now c.args.pool.now) c.args.c _ _ c.loop-k.invariant.0)

pub overflow_sub-rest-in-loop-k : goal.overflow_sub-rest-in-loop-k
unfolding trees_in runs_laid runs_views_laid
overflow_sub-rest-in-loop-k c = omega (arith, laid_so_far c.args.left c.args.n (tree_of c.args.t.now c.args.rows.now c.args.runs.now c.args.views.now c.args.pool.now) c.args.c _ _ c.loop-k.invariant.0, part_within (tree_of c.args.t.now c.args.rows.now c.args.runs.now c.args.views.now c.args.pool.now) c.args.n c.loop-k.k c.loop-k-test.true, c.requires.pool_len_bound)

pub put_runs_at-to-requires : goal.put_runs_at-to-requires
unfolding trees_in runs_laid runs_views_laid
put_runs_at-to-requires c = let i = c.loop-k.invariant in let h = c.loop-k-test.true in rw (left_now c.args.left c.args.n (tree_of c.args.t.now c.args.rows.now c.args.runs.now c.args.views.now c.args.pool.now) c.args.c _ _ c.loop-k.invariant.0)
    (record { i_in_bounds = omega arith; i_len_bound = omega (arith, part_within (tree_of c.args.t.now c.args.rows.now c.args.runs.now c.args.views.now c.args.pool.now) c.args.n c.loop-k.k c.loop-k-test.true, c.requires.pool_len_bound); i_in_bounds_2 = grown_room i.0 i.1 h; i_in_bounds_3 = grown_room i.0 i.2 h; i_in_bounds_4 = grown_room i.0 i.3 h })

pub loop-k-smaller : goal.loop-k-smaller
unfolding trees_in runs_laid runs_views_laid
loop-k-smaller c = rw (add-one c.loop-k.k) (sub_dec c.args.n c.loop-k.k c.loop-k-test.true)

pub loop-k-preserved : goal.loop-k-preserved
unfolding trees_in runs_laid runs_views_laid
loop-k-preserved c = let i = c.loop-k.invariant in let h = c.loop-k-test.true in (walk_more i.0 h (rw (left_now c.args.left c.args.n (tree_of c.args.t.now c.args.rows.now c.args.runs.now c.args.views.now c.args.pool.now) c.args.c _ _ c.loop-k.invariant.0) at c.put_runs_at-to.ensures.value), grown_more i.0 i.1 h (rw (left_now c.args.left c.args.n (tree_of c.args.t.now c.args.rows.now c.args.runs.now c.args.views.now c.args.pool.now) c.args.c _ _ c.loop-k.invariant.0) at c.put_runs_at-to.ensures.out_runs_after), grown_more i.0 i.2 h (rw (left_now c.args.left c.args.n (tree_of c.args.t.now c.args.rows.now c.args.runs.now c.args.views.now c.args.pool.now) c.args.c _ _ c.loop-k.invariant.0) at c.put_runs_at-to.ensures.out_views_after), grown_more i.0 i.3 h (rw (left_now c.args.left c.args.n (tree_of c.args.t.now c.args.rows.now c.args.runs.now c.args.views.now c.args.pool.now) c.args.c _ _ c.loop-k.invariant.0) at c.put_runs_at-to.ensures.out_pool_after))

pub shape_of-out_runs : goal.shape_of-out_runs
unfolding trees_in runs_laid runs_views_laid
shape_of-out_runs c = c.loop-k.invariant.1.long

pub shape_of-out_views : goal.shape_of-out_views
unfolding trees_in runs_laid runs_views_laid
shape_of-out_views c = c.loop-k.invariant.2.long

pub shape_of-out_pool : goal.shape_of-out_pool
unfolding trees_in runs_laid runs_views_laid
shape_of-out_pool c = c.loop-k.invariant.3.long

pub returns : goal.returns
unfolding trees_in runs_laid runs_views_laid
returns c = let i = c.loop-k.invariant in let h = c.loop-k-test.false in record { value = walk_all_lem i.0 h ∙ ap (plus c.args.c) (runs_fill_is (numbered c.args.left (joined tree_runs (up_to (tree_of c.args.t.now c.args.rows.now c.args.runs.now c.args.views.now c.args.pool.now) c.args.n))) (up_to (numbered_at c.args.left (tree_of c.args.t.now c.args.rows.now c.args.runs.now c.args.views.now c.args.pool.now)) c.args.n) (numbered_pieces c.args.left (tree_of c.args.t.now c.args.rows.now c.args.runs.now c.args.views.now c.args.pool.now) c.args.n)); out_runs_after = runs_rows_are (numbered c.args.left (joined tree_runs (up_to (tree_of c.args.t.now c.args.rows.now c.args.runs.now c.args.views.now c.args.pool.now) c.args.n))) (up_to (numbered_at c.args.left (tree_of c.args.t.now c.args.rows.now c.args.runs.now c.args.views.now c.args.pool.now)) c.args.n) (numbered_pieces c.args.left (tree_of c.args.t.now c.args.rows.now c.args.runs.now c.args.views.now c.args.pool.now) c.args.n) c.args.c _ _ (grown_all i.0 i.1 h); out_views_after = runs_views_are (numbered c.args.left (joined tree_runs (up_to (tree_of c.args.t.now c.args.rows.now c.args.runs.now c.args.views.now c.args.pool.now) c.args.n))) (up_to (numbered_at c.args.left (tree_of c.args.t.now c.args.rows.now c.args.runs.now c.args.views.now c.args.pool.now)) c.args.n) (numbered_pieces c.args.left (tree_of c.args.t.now c.args.rows.now c.args.runs.now c.args.views.now c.args.pool.now) c.args.n) c.args.c _ _ (grown_all i.0 i.2 h); out_pool_after = runs_bytes_are (numbered c.args.left (joined tree_runs (up_to (tree_of c.args.t.now c.args.rows.now c.args.runs.now c.args.views.now c.args.pool.now) c.args.n))) (up_to (numbered_at c.args.left (tree_of c.args.t.now c.args.rows.now c.args.runs.now c.args.views.now c.args.pool.now)) c.args.n) (numbered_pieces c.args.left (tree_of c.args.t.now c.args.rows.now c.args.runs.now c.args.views.now c.args.pool.now) c.args.n) c.args.c _ _ (joined_all i.0 i.3 h) }
