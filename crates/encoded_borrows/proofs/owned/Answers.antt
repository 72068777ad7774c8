use mathlib.Core.Path.{sym, ◌∙◌}
use borrow.Author.Tests.{lt-ltb, le-ltb}
use Rattle.measure.proofs.Exits.{exit_same}
use Rattle.encoded_borrows.specs.Owned.{owned_on}
use Rattle.encoded.proofs.Opens.{rows_mean}
use Rattle.encoded_borrows.proofs.Owns.{owned_rows, owned_refused, owned_long, owned_short, owned_bytes}
use Rattle.encoded_borrows.proofs.owned.Goals as goal

pub returns-then-s-gt-LONGEST : goal.returns-then-s-gt-LONGEST
returns-then-s-gt-LONGEST c = owned_long _ _ _ _ (lt-ltb _ _ c.if-s-gt-LONGEST.true)

pub rows_of-requires : goal.rows_of-requires
rows_of-requires c = sym c.has_tables.ensures ∙ c.if-not-has_tables.false

pub returns : goal.returns
returns c = c.owned_ssts.ensures ∙ owned_rows _ _ _ _ ∙ rows_mean (owned_on _ _) _ _ _ _ _ c.rows_of.ensures c.in_ok-m.was ∙ owned_bytes _ _ _ _ (le-ltb _ _ c.if-s-gt-LONGEST.false) (sym c.has_tables.ensures ∙ c.if-not-has_tables.false)

pub returns-in_err-m : goal.returns-in_err-m
returns-in_err-m c = rw (exit_same _ _ c.from_residual.ensures.1) (owned_refused _ _ _ ∙ rows_mean (owned_on _ _) _ _ _ _ _ c.rows_of.ensures c.in_err-m.was ∙ owned_bytes _ _ _ _ (le-ltb _ _ c.if-s-gt-LONGEST.false) (sym c.has_tables.ensures ∙ c.if-not-has_tables.false))

pub returns-then-not-has_tables : goal.returns-then-not-has_tables
returns-then-not-has_tables c = owned_short _ _ _ _ (le-ltb _ _ c.if-s-gt-LONGEST.false) (sym c.has_tables.ensures ∙ c.if-not-has_tables.true)
