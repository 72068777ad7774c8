use Prim.Native.Nat.{◌/◌}
use mathlib.Core.Path.{sym, ap, ◌∙◌}
use native.Mathlib.Omega.{arith}
use lib.ListN.{length}
use Rattle.ids.specs.Names.{ids_of}
use Rattle.tables.proofs.Windows.{held_in}
use Rattle.measure.specs.Walk.{add_of}
use Rattle.measure.proofs.Fits.{add_over}
use Rattle.project_views.proofs.Summed.{summed_none, summed_fits, summed_more, summed_broken, summed_all}
use Rattle.prune.proofs.Kept.{kept_fill}
use Rattle.prune.proofs.measure_pruned.Goals as goal

pub returns-then-not-fits_in : goal.returns-then-not-fits_in
returns-then-not-fits_in c = add_over _ _ _ _ c.fits_in.ensures (c.if-not-fits_in.true)

pub loop-k-init : goal.loop-k-init
loop-k-init c = summed_none (sym c.fits_in.ensures ∙ c.if-not-fits_in.false)

pub overflow_add-w : goal.overflow_add-w
overflow_add-w c = omega (arith, held_in c.args.w (length c.args.borrows.now / 9) c.loop-k.k (omega arith))

pub add_kept_at-requires : goal.add_kept_at-requires
add_kept_at-requires c = record { i_in_bounds = held_in c.args.w (length c.args.borrows.now / 9) c.loop-k.k (omega arith); most_value = summed_fits c.loop-k.invariant }

pub returns-in_err-d : goal.returns-in_err-d
returns-in_err-d c = rw c.from_residual.ensures (let a = c.args in summed_broken c.loop-k.invariant _ c.loop-k-test.true c.add_kept_at.ensures c.in_err-d.was ∙ ap (add_of a.most a.c) (kept_fill (ids_of a.used.now) a.borrows.now a.ids.now a.pool.now a.w _ c.held-n.ensures))

pub loop-k-preserved : goal.loop-k-preserved
loop-k-preserved c = summed_more c.loop-k.invariant _ c.loop-k-test.true c.add_kept_at.ensures c.in_ok-d.was

pub returns : goal.returns
returns c = let a = c.args in summed_all c.loop-k.invariant c.loop-k-test.false ∙ ap (add_of a.most a.c) (kept_fill (ids_of a.used.now) a.borrows.now a.ids.now a.pool.now a.w _ c.held-n.ensures)
