use native.Mathlib.Numerals.{add-one}
use lib.Arith.{sub_dec}
use Prim.Native.Nat.{◌/◌}
use native.Mathlib.Omega.{arith}
use lib.ListN.{length}
use Rattle.tables.proofs.Windows.{held_in}
use Rattle.records.specs.Layout.{runs_laid, runs_views_laid}
use Rattle.emit.proofs.Laid.{walk_none, walk_more, walk_all_lem, grown_none, grown_room, grown_more, grown_all, joined_all}
use Rattle.project_views.specs.Reach.{reach_of}
use Rattle.project_views.proofs.Runs.{shown_fill, shown_past, shown_rows, shown_views, shown_bytes}
use Rattle.project_views.proofs.views_laid.put_runs_shown.Goals as goal

pub loop-k-init : goal.loop-k-init
unfolding runs_laid runs_views_laid
loop-k-init c = let a = c.args in let f = shown_fill a.runs.now a.views.now a.pool.now a.w (reach_of a.pool.now a.r) _ c.held-n.ensures in (walk_none, grown_none (rw f c.requires.w_in_bounds), grown_none (rw f c.requires.w_in_bounds_2), grown_none (rw f c.requires.w_in_bounds_3))

pub put_run_shown_at-to-requires : goal.put_run_shown_at-to-requires
unfolding runs_laid runs_views_laid
put_run_shown_at-to-requires c = let i = c.loop-k.invariant in let h = c.loop-k-test.true in record { i_in_bounds = held_in c.args.w (length c.args.runs.now / 3) c.loop-k.k (omega arith); i_in_bounds_2 = grown_room i.0 i.1 h; i_in_bounds_3 = grown_room i.0 i.2 h; i_in_bounds_4 = grown_room i.0 i.3 h }

pub loop-k-smaller : goal.loop-k-smaller
unfolding runs_laid runs_views_laid
loop-k-smaller c = rw (add-one c.loop-k.k) (sub_dec c.held-n.result c.loop-k.k c.loop-k-test.true)

pub loop-k-preserved : goal.loop-k-preserved
unfolding runs_laid runs_views_laid
loop-k-preserved c = let i = c.loop-k.invariant in let h = c.loop-k-test.true in (walk_more i.0 h c.put_run_shown_at-to.ensures.value, grown_more i.0 i.1 h c.put_run_shown_at-to.ensures.out_runs_after, grown_more i.0 i.2 h c.put_run_shown_at-to.ensures.out_views_after, grown_more i.0 i.3 h c.put_run_shown_at-to.ensures.out_pool_after)

pub shape_of-out_runs : goal.shape_of-out_runs
unfolding runs_laid runs_views_laid
shape_of-out_runs c = c.loop-k.invariant.1.long

pub shape_of-out_views : goal.shape_of-out_views
unfolding runs_laid runs_views_laid
shape_of-out_views c = c.loop-k.invariant.2.long

pub shape_of-out_pool : goal.shape_of-out_pool
unfolding runs_laid runs_views_laid
shape_of-out_pool c = c.loop-k.invariant.3.long

pub returns : goal.returns
unfolding runs_laid runs_views_laid
returns c = let a = c.args in let i = c.loop-k.invariant in let h = c.loop-k-test.false in let e = c.held-n.ensures in record { value = shown_past a.runs.now a.views.now a.pool.now a.w _ _ e a.c _ (walk_all_lem i.0 h); out_runs_after = shown_rows a.runs.now a.views.now a.pool.now a.w _ _ e a.c _ _ (grown_all i.0 i.1 h); out_views_after = shown_views a.runs.now a.views.now a.pool.now a.w _ _ e a.c _ _ (grown_all i.0 i.2 h); out_pool_after = shown_bytes a.runs.now a.views.now a.pool.now a.w _ _ e a.c _ _ (joined_all i.0 i.3 h) }

pub overflow_add-w : goal.overflow_add-w
unfolding runs_laid runs_views_laid
overflow_add-w c = omega (arith, held_in c.args.w (length c.args.runs.now / 3) c.loop-k.k (omega arith))
