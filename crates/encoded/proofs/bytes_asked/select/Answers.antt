use mathlib.Core.Path.{sym, ◌∙◌}
use borrow.Author.Tests.{lt-ltb, le-ltb}
use Rattle.encoded.specs.Select.{selected_in}
use Rattle.measure.proofs.Exits.{exit_same}
use Rattle.encoded.proofs.Opens.{rows_mean}
use Rattle.encoded.proofs.Looks.{selected_rows, selected_refused, select_long, select_over, select_short, select_bytes}
use Rattle.encoded.proofs.bytes_asked.select.Goals as goal

pub returns-then-s-gt-LONGEST : goal.returns-then-s-gt-LONGEST
returns-then-s-gt-LONGEST c = select_long _ _ _ _ _ (lt-ltb _ _ c.if-s-gt-LONGEST.true)

pub returns-then-range_over : goal.returns-then-range_over
returns-then-range_over c = select_over _ _ _ _ _ (le-ltb _ _ c.if-s-gt-LONGEST.false) (sym c.range_over.ensures ∙ c.if-range_over.true)

pub rows_of-requires : goal.rows_of-requires
rows_of-requires c = sym c.has_tables.ensures ∙ c.if-not-has_tables.false

pub returns : goal.returns
returns c = c.select_segments.ensures ∙ selected_rows _ _ _ _ _ (sym c.range_over.ensures ∙ c.if-range_over.false) ∙ rows_mean (selected_in _ _) _ _ _ _ _ c.rows_of.ensures c.in_ok-m.was ∙ select_bytes _ _ _ _ _ (le-ltb _ _ c.if-s-gt-LONGEST.false) (sym c.range_over.ensures ∙ c.if-range_over.false) (sym c.has_tables.ensures ∙ c.if-not-has_tables.false)

pub returns-in_err-m : goal.returns-in_err-m
returns-in_err-m c = rw (exit_same _ _ c.from_residual.ensures.1) (selected_refused _ _ _ ∙ rows_mean (selected_in _ _) _ _ _ _ _ c.rows_of.ensures c.in_err-m.was ∙ select_bytes _ _ _ _ _ (le-ltb _ _ c.if-s-gt-LONGEST.false) (sym c.range_over.ensures ∙ c.if-range_over.false) (sym c.has_tables.ensures ∙ c.if-not-has_tables.false))

pub returns-then-not-has_tables : goal.returns-then-not-has_tables
returns-then-not-has_tables c = select_short _ _ _ _ _ (le-ltb _ _ c.if-s-gt-LONGEST.false) (sym c.range_over.ensures ∙ c.if-range_over.false) (sym c.has_tables.ensures ∙ c.if-not-has_tables.true)
