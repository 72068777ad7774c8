use mathlib.Core.Path.{refl, sym, ap, ◌∙◌}
use native.Mathlib.Omega.{arith}
use Rattle.measure.specs.Walk.{add_of}
use Rattle.measure.proofs.Fits.{add_over}
use Rattle.project_views.proofs.Summed.{summed_none, summed_fits, summed_more, summed_broken, summed_all}
use Rattle.unite_named.proofs.Pieces.{pieces_sum}
use Rattle.unite_named.proofs.measure_named.Goals as goal

pub returns-then-not-fits_in : goal.returns-then-not-fits_in
returns-then-not-fits_in c = record { value = add_over _ _ _ _ c.fits_in.ensures (c.if-not-fits_in.true); shares_len_unchanged = refl }

pub loop-k-init : goal.loop-k-init
loop-k-init c = (summed_none (sym c.fits_in.ensures ∙ c.if-not-fits_in.false), refl)

pub add_segment_at-requires : goal.add_segment_at-requires
add_segment_at-requires c = record { n_in_bounds = c.requires.n_in_bounds; n_in_bounds_2 = omega (arith, c.requires.n_in_bounds_2, c.loop-k.invariant.1); i_in_bounds = omega (arith, c.requires.np_in_bounds, c.loop-k-test.true); most_value = summed_fits c.loop-k.invariant.0 }

pub returns-in_err-d : goal.returns-in_err-d
returns-in_err-d c = rw c.from_residual.ensures (let a = c.args in record { value = summed_broken c.loop-k.invariant.0 _ c.loop-k-test.true c.add_segment_at.ensures.value c.in_err-d.was ∙ ap (add_of a.most a.c) (pieces_sum a.segments.now a.views.now a.runs.now a.pool.now a.sources.now a.order.now a.n a.prefixes.now a.np); shares_len_unchanged = c.add_segment_at.ensures.shares_len_unchanged ∙ c.loop-k.invariant.1 })

pub loop-k-preserved : goal.loop-k-preserved
loop-k-preserved c = (summed_more c.loop-k.invariant.0 _ c.loop-k-test.true c.add_segment_at.ensures.value c.in_ok-d.was, c.add_segment_at.ensures.shares_len_unchanged ∙ c.loop-k.invariant.1)

pub returns : goal.returns
returns c = let a = c.args in record { value = summed_all c.loop-k.invariant.0 c.loop-k-test.false ∙ ap (add_of a.most a.c) (pieces_sum a.segments.now a.views.now a.runs.now a.pool.now a.sources.now a.order.now a.n a.prefixes.now a.np); shares_len_unchanged = c.loop-k.invariant.1 }
