use native.Mathlib.Numerals.{add-one}
use lib.Arith.{sub_dec}
use mathlib.Core.Path.{sym, ◌∙◌}
use Rattle.project_views.proofs.Summed.{summed_none, summed_more, summed_broken, summed_all}
use Rattle.unite_groups.specs.Rows.{members_in}
use Rattle.unite_groups.proofs.Lent.{over_before, added_row}
use Rattle.unite_groups.proofs.group_borrows_laid.measure_groups.Goals as goal

pub returns-then-not-fits_in : goal.returns-then-not-fits_in
unfolding members_in
returns-then-not-fits_in c = over_before _ _ _ _ c.fits_in.ensures (c.if-not-fits_in.true)

pub loop-k-init : goal.loop-k-init
unfolding members_in
loop-k-init c = summed_none (sym c.fits_in.ensures ∙ c.if-not-fits_in.false)

pub returns-in_err-d : goal.returns-in_err-d
unfolding members_in
returns-in_err-d c = rw c.from_residual.ensures (summed_broken c.loop-k.invariant _ c.loop-k-test.true (added_row _ _ _ _ _ c.group_fill.ensures c.add.ensures) c.in_err-d.was)

pub loop-k-smaller : goal.loop-k-smaller
unfolding members_in
loop-k-smaller c = rw (add-one c.loop-k.k) (sub_dec c.args.n c.loop-k.k c.loop-k-test.true)

pub loop-k-preserved : goal.loop-k-preserved
unfolding members_in
loop-k-preserved c = summed_more c.loop-k.invariant _ c.loop-k-test.true (added_row _ _ _ _ _ c.group_fill.ensures c.add.ensures) c.in_ok-d.was

pub returns : goal.returns
unfolding members_in
returns c = summed_all c.loop-k.invariant c.loop-k-test.false
