use mathlib.Core.Path.{refl, sym, ◌∙◌}
use Rattle.records.specs.Decode.{tree_in}
use Rattle.records.specs.Fill.{sum, view_fill, run_fill, tree_fill}
use Rattle.measure.proofs.Fits.{add_over}
use Rattle.project_views.specs.Reach.{reach_of}
use Rattle.project_views.specs.Shown.{tree_shown}
use Rattle.project_views.proofs.Summed.{added_is, added_broken, added_on}
use Rattle.project_views.proofs.views_measured.measure_tree_shown.Goals as goal

pub returns-then-not-fits_in : goal.returns-then-not-fits_in
unfolding tree_shown tree_in tree_fill
returns-then-not-fits_in c = add_over _ _ _ _ c.fits_in.ensures (c.if-not-fits_in.true)

pub add_views_shown-requires : goal.add_views_shown-requires
unfolding tree_shown tree_in tree_fill
add_views_shown-requires c = sym c.fits_in.ensures ∙ c.if-not-fits_in.false

pub returns-in_err-d : goal.returns-in_err-d
unfolding tree_shown tree_in tree_fill
returns-in_err-d c = rw c.from_residual.ensures (let a = c.args in let t = tree_shown (reach_of a.pool.now a.r) (tree_in a.runs.now a.views.now a.pool.now a.t) in added_broken a.most a.c (sum view_fill t.l0) (sum run_fill t.runs) (tree_fill t) refl _ c.add_views_shown.ensures c.in_err-d.was)

pub add_runs_shown-requires : goal.add_runs_shown-requires
unfolding tree_shown tree_in tree_fill
add_runs_shown-requires c = (added_is _ _ _ _ (sym c.add_views_shown.ensures ∙ c.in_ok-d.was)).1

pub returns : goal.returns
unfolding tree_shown tree_in tree_fill
returns c = added_on _ _ _ _ _ refl _ _ _ c.add_views_shown.ensures c.in_ok-d.was c.add_runs_shown.ensures
