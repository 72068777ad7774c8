use native.Mathlib.Numerals.{add-one}
use lib.Arith.{sub_dec}
use Prim.Native.Nat.{◌/◌}
use native.Mathlib.Omega.{arith}
use lib.ListN.{length}
use Rattle.tables.proofs.Windows.{held_in}
use Rattle.records.specs.Fill.{run_fill}
use Rattle.records.specs.Layout.{run_bytes, runs_laid, runs_views_laid}
use Rattle.emit.proofs.Laid.{walk_none, walk_more, walk_all_lem, grown_none, grown_room, grown_more, grown_all, joined_all}
use Rattle.unite_trees.proofs.Parts.{numbered_window, window_few}
use Rattle.unite_trees.proofs.trees_laid.put_numbered.Goals as goal

pub loop-k-init : goal.loop-k-init
unfolding run_fill run_bytes runs_laid runs_views_laid
loop-k-init c = (walk_none, grown_none (rw (numbered_window c.args.runs.now c.args.views.now c.args.pool.now c.args.w _ c.held-n.ensures c.args.left) c.requires.w_in_bounds), grown_none (rw (numbered_window c.args.runs.now c.args.views.now c.args.pool.now c.args.w _ c.held-n.ensures c.args.left) c.requires.w_in_bounds_2), grown_none (rw (numbered_window c.args.runs.now c.args.views.now c.args.pool.now c.args.w _ c.held-n.ensures c.args.left) c.requires.w_in_bounds_3))

pub overflow_sub-id : goal.overflow_sub-id
unfolding run_fill run_bytes runs_laid runs_views_laid
overflow_sub-id c = omega (arith, (window_few c.args.runs.now c.args.views.now c.args.pool.now c.args.w _ c.held-n.ensures c.args.left c.requires.w_len_bound))

pub overflow_sub-id-in-loop-k : goal.overflow_sub-id-in-loop-k
unfolding run_fill run_bytes runs_laid runs_views_laid
overflow_sub-id-in-loop-k c = omega (arith, (window_few c.args.runs.now c.args.views.now c.args.pool.now c.args.w _ c.held-n.ensures c.args.left c.requires.w_len_bound))

pub overflow_add-w : goal.overflow_add-w
unfolding run_fill run_bytes runs_laid runs_views_laid
overflow_add-w c = omega (arith, held_in c.args.w (length c.args.runs.now / 3) c.loop-k.k (omega arith))

pub put_run_as-to-requires : goal.put_run_as-to-requires
unfolding run_fill run_bytes runs_laid runs_views_laid
put_run_as-to-requires c = let i = c.loop-k.invariant in let h = c.loop-k-test.true in record { i_in_bounds = held_in c.args.w (length c.args.runs.now / 3) c.loop-k.k (omega arith); i_in_bounds_2 = grown_room i.0 i.1 h; i_in_bounds_3 = grown_room i.0 i.2 h; i_in_bounds_4 = grown_room i.0 i.3 h }

pub loop-k-smaller : goal.loop-k-smaller
unfolding run_fill run_bytes runs_laid runs_views_laid
loop-k-smaller c = rw (add-one c.loop-k.k) (sub_dec c.held-n.result c.loop-k.k c.loop-k-test.true)

pub loop-k-preserved : goal.loop-k-preserved
unfolding run_fill run_bytes runs_laid runs_views_laid
loop-k-preserved c = let i = c.loop-k.invariant in let h = c.loop-k-test.true in (walk_more i.0 h c.put_run_as-to.ensures.value, grown_more i.0 i.1 h c.put_run_as-to.ensures.out_runs_after, grown_more i.0 i.2 h c.put_run_as-to.ensures.out_views_after, grown_more i.0 i.3 h c.put_run_as-to.ensures.out_pool_after)

pub shape_of-out_runs : goal.shape_of-out_runs
unfolding run_fill run_bytes runs_laid runs_views_laid
shape_of-out_runs c = c.loop-k.invariant.1.long

pub shape_of-out_views : goal.shape_of-out_views
unfolding run_fill run_bytes runs_laid runs_views_laid
shape_of-out_views c = c.loop-k.invariant.2.long

pub shape_of-out_pool : goal.shape_of-out_pool
unfolding run_fill run_bytes runs_laid runs_views_laid
shape_of-out_pool c = c.loop-k.invariant.3.long

pub returns : goal.returns
unfolding run_fill run_bytes runs_laid runs_views_laid
returns c = let i = c.loop-k.invariant in let h = c.loop-k-test.false in rw (← numbered_window c.args.runs.now c.args.views.now c.args.pool.now c.args.w _ c.held-n.ensures c.args.left) (record { value = walk_all_lem i.0 h; out_runs_after = grown_all i.0 i.1 h; out_views_after = grown_all i.0 i.2 h; out_pool_after = joined_all i.0 i.3 h })
