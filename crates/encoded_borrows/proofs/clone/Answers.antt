use mathlib.Core.Path.{sym, ap, ◌∙◌}
use borrow.Author.Tests.{lt-ltb, le-ltb}
use native.Mathlib.Omega.{arith}
use Rattle.measure.proofs.Fits.{under}
use Rattle.encoded_borrows.specs.Clone.{cloned_on}
use Rattle.encoded.proofs.Inserts.{both_fit_lem}
use Rattle.encoded_borrows.proofs.Clones.{clone_too_long, clone_over, clone_short, clone_bytes}
use Rattle.encoded_borrows.proofs.clone.Goals as goal

pub returns-then-s-gt-LONGEST : goal.returns-then-s-gt-LONGEST
returns-then-s-gt-LONGEST c = clone_too_long _ _ _ _ _ _ _ _ _ (lt-ltb _ _ c.if-s-gt-LONGEST.true)

pub returns-then-lim-path : goal.returns-then-lim-path
returns-then-lim-path c = clone_over _ _ _ _ _ _ _ _ _ (le-ltb _ _ c.if-s-gt-LONGEST.false) (lt-ltb _ _ c.if-lim-path.true)

pub rows_of-rows-requires : goal.rows_of-rows-requires
rows_of-rows-requires c = (both_fit_lem _ _ _ (sym c.has_results.ensures ∙ c.if-not-has_results.false)).0

pub clone_rows-requires : goal.clone_rows-requires
clone_rows-requires c = record { borrows_in_bounds = omega (arith, (under _ _ (both_fit_lem _ _ _ (sym c.has_results.ensures ∙ c.if-not-has_results.false)).0).borrows, c.rows_of-rows.auto); out_pool_value = (both_fit_lem _ _ _ (sym c.has_results.ensures ∙ c.if-not-has_results.false)).1 }

pub returns : goal.returns
returns c = c.clone_rows.ensures ∙ ap (cloned_on _ _ _ _ _ _) c.rows_of-rows.ensures ∙ clone_bytes _ _ _ _ _ _ _ _ _ (le-ltb _ _ c.if-s-gt-LONGEST.false) (le-ltb _ _ c.if-lim-path.false) (sym c.has_results.ensures ∙ c.if-not-has_results.false)

pub returns-then-not-has_results : goal.returns-then-not-has_results
returns-then-not-has_results c = clone_short _ _ _ _ _ _ _ _ _ (le-ltb _ _ c.if-s-gt-LONGEST.false) (le-ltb _ _ c.if-lim-path.false) (sym c.has_results.ensures ∙ c.if-not-has_results.true)
