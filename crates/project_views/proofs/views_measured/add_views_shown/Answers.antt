use native.Mathlib.Numerals.{add-one}
use lib.Arith.{sub_dec}
use Prim.Native.Nat.{◌-◌, ◌/◌}
use mathlib.Core.Path.{ap, ◌∙◌}
use native.Mathlib.Omega.{arith}
use lib.ListN.{length}
use Rattle.tables.proofs.Windows.{held_in}
use Rattle.measure.specs.Walk.{add_of}
use Rattle.project_views.specs.Reach.{reach_of}
use Rattle.project_views.proofs.Shows.{shown_fill}
use Rattle.project_views.proofs.Summed.{summed_none, summed_fits, summed_more, summed_broken, summed_all}
use Rattle.project_views.proofs.views_measured.add_views_shown.Goals as goal

pub loop-k-init : goal.loop-k-init
loop-k-init c = summed_none c.requires

pub add_kept_at-requires : goal.add_kept_at-requires
add_kept_at-requires c = let h = c.loop-k-test.true in let l = held_in c.args.w (length c.args.views.now / 16) (c.held-n.result - 1) (omega (arith, c.held-n.ensures)) in record { n_in_bounds = (omega arith, h); most_value = summed_fits c.loop-k.invariant }

pub returns-in_err-d : goal.returns-in_err-d
returns-in_err-d c = rw c.from_residual.ensures (let a = c.args in summed_broken c.loop-k.invariant _ c.loop-k-test.true c.add_kept_at.ensures c.in_err-d.was ∙ ap (add_of a.most a.c) (shown_fill a.views.now a.pool.now a.w (reach_of a.pool.now a.r) a.views_overlap _ c.held-n.ensures))

pub loop-k-smaller : goal.loop-k-smaller
loop-k-smaller c = rw (add-one c.loop-k.k) (sub_dec c.held-n.result c.loop-k.k c.loop-k-test.true)

pub loop-k-preserved : goal.loop-k-preserved
loop-k-preserved c = summed_more c.loop-k.invariant _ c.loop-k-test.true c.add_kept_at.ensures c.in_ok-d.was

pub returns : goal.returns
returns c = let a = c.args in summed_all c.loop-k.invariant c.loop-k-test.false ∙ ap (add_of a.most a.c) (shown_fill a.views.now a.pool.now a.w (reach_of a.pool.now a.r) a.views_overlap _ c.held-n.ensures)
