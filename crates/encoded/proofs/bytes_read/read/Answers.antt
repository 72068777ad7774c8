use mathlib.Core.Path.{sym, ap, ◌∙◌}
use borrow.Author.Tests.{lt-ltb, le-ltb}
use Rattle.encoded.specs.Encoded.{on}
use Rattle.encoded.specs.Read.{refused_with, given_of}
use Rattle.encoded.proofs.Writes.{read_long, read_short, read_bytes}
use Rattle.encoded.proofs.bytes_read.read.Goals as goal

pub returns-then-s-gt-LONGEST : goal.returns-then-s-gt-LONGEST
returns-then-s-gt-LONGEST c = read_long _ _ _ _ _ (lt-ltb _ _ c.if-s-gt-LONGEST.true)

pub rows_of-rows-requires : goal.rows_of-rows-requires
rows_of-rows-requires c = sym c.has_tables.ensures ∙ c.if-not-has_tables.false

pub returns : goal.returns
returns c = c.write_rows.ensures ∙ ap (on (refused_with _) (given_of _ _ _)) c.rows_of-rows.ensures ∙ read_bytes _ _ _ _ _ (le-ltb _ _ c.if-s-gt-LONGEST.false) (sym c.has_tables.ensures ∙ c.if-not-has_tables.false)

pub returns-then-not-has_tables : goal.returns-then-not-has_tables
returns-then-not-has_tables c = read_short _ _ _ _ _ (le-ltb _ _ c.if-s-gt-LONGEST.false) (sym c.has_tables.ensures ∙ c.if-not-has_tables.true)
