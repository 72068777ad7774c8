use native.Mathlib.Numerals.{add-one}
use lib.Arith.{sub_dec}
use native.Mathlib.Omega.{arith}
use mathlib.Core.Path.{sym, ap, ◌∙◌}
use Rattle.tables.specs.Layout.{up_to}
use Rattle.measure.specs.Walk.{add_of}
use Rattle.measure.proofs.Fits.{add_over}
use Rattle.project_views.proofs.Summed.{summed_none, summed_fits, summed_more, summed_broken, summed_all}
use Rattle.unite_trees.specs.Rows.{trees_in}
use Rattle.unite_trees.specs.Steps.{tree_of}
use Rattle.unite_trees.proofs.Parts.{trees_fill}
use Rattle.unite_trees.proofs.trees_measured.measure_joined.Goals as goal

pub returns-then-not-fits_in : goal.returns-then-not-fits_in
unfolding trees_in
returns-then-not-fits_in c = add_over _ _ _ _ c.fits_in.ensures (c.if-not-fits_in.true)

pub loop-k-init : goal.loop-k-init
unfolding trees_in
loop-k-init c = summed_none (sym c.fits_in.ensures ∙ c.if-not-fits_in.false)

pub add_tree_at-requires : goal.add_tree_at-requires
unfolding trees_in
add_tree_at-requires c = record { i_in_bounds = omega arith; most_value = summed_fits c.loop-k.invariant }

pub returns-in_err-d : goal.returns-in_err-d
unfolding trees_in
returns-in_err-d c = rw c.from_residual.ensures (summed_broken c.loop-k.invariant _ c.loop-k-test.true c.add_tree_at.ensures c.in_err-d.was ∙ ap (add_of c.args.most c.args.c) (trees_fill (up_to (tree_of c.args.t.now c.args.rows.now c.args.runs.now c.args.views.now c.args.pool.now) c.args.n)))

pub loop-k-smaller : goal.loop-k-smaller
unfolding trees_in
loop-k-smaller c = rw (add-one c.loop-k.k) (sub_dec c.args.n c.loop-k.k c.loop-k-test.true)

pub loop-k-preserved : goal.loop-k-preserved
unfolding trees_in
loop-k-preserved c = summed_more c.loop-k.invariant _ c.loop-k-test.true c.add_tree_at.ensures c.in_ok-d.was

pub returns : goal.returns
unfolding trees_in
returns c = summed_all c.loop-k.invariant c.loop-k-test.false ∙ ap (add_of c.args.most c.args.c) (trees_fill (up_to (tree_of c.args.t.now c.args.rows.now c.args.runs.now c.args.views.now c.args.pool.now) c.args.n))
