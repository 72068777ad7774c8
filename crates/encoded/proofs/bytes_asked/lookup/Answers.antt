use mathlib.Core.Path.{sym, ◌∙◌}
use borrow.Author.Tests.{lt-ltb, le-ltb}
use Rattle.encoded.specs.Lookup.{looked_in}
use Rattle.measure.proofs.Exits.{exit_same}
use Rattle.encoded.proofs.Opens.{rows_mean}
use Rattle.encoded.proofs.Looks.{looked_rows, looked_refused, lookup_long, lookup_over, lookup_short, lookup_bytes}
use Rattle.encoded.proofs.bytes_asked.lookup.Goals as goal

pub returns-then-s-gt-LONGEST : goal.returns-then-s-gt-LONGEST
returns-then-s-gt-LONGEST c = lookup_long _ _ _ _ (lt-ltb _ _ c.if-s-gt-LONGEST.true)

pub returns-then-lim-prefix : goal.returns-then-lim-prefix
returns-then-lim-prefix c = lookup_over _ _ _ _ (le-ltb _ _ c.if-s-gt-LONGEST.false) (lt-ltb _ _ c.if-lim-prefix.true)

pub rows_of-requires : goal.rows_of-requires
rows_of-requires c = sym c.has_tables.ensures ∙ c.if-not-has_tables.false

pub returns : goal.returns
returns c = c.tree_for_segment.ensures ∙ looked_rows _ _ _ _ (le-ltb _ _ c.if-lim-prefix.false) ∙ rows_mean (looked_in _) _ _ _ _ _ c.rows_of.ensures c.in_ok-m.was ∙ lookup_bytes _ _ _ _ (le-ltb _ _ c.if-s-gt-LONGEST.false) (le-ltb _ _ c.if-lim-prefix.false) (sym c.has_tables.ensures ∙ c.if-not-has_tables.false)

pub returns-in_err-m : goal.returns-in_err-m
returns-in_err-m c = rw (exit_same _ _ c.from_residual.ensures.1) (looked_refused _ _ ∙ rows_mean (looked_in _) _ _ _ _ _ c.rows_of.ensures c.in_err-m.was ∙ lookup_bytes _ _ _ _ (le-ltb _ _ c.if-s-gt-LONGEST.false) (le-ltb _ _ c.if-lim-prefix.false) (sym c.has_tables.ensures ∙ c.if-not-has_tables.false))

pub returns-then-not-has_tables : goal.returns-then-not-has_tables
returns-then-not-has_tables c = lookup_short _ _ _ _ (le-ltb _ _ c.if-s-gt-LONGEST.false) (le-ltb _ _ c.if-lim-prefix.false) (sym c.has_tables.ensures ∙ c.if-not-has_tables.true)
