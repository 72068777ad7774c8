use mathlib.Core.Path.{sym, ap, ◌∙◌}
use borrow.Author.Tests.{lt-ltb, le-ltb}
use Rattle.encoded.specs.Insert.{inserted_in}
use Rattle.encoded.proofs.Inserts.{both_fit_lem, insert_long, insert_over, insert_short, insert_bytes}
use Rattle.encoded.proofs.bytes_inserted.insert.Goals as goal

pub returns-then-s-gt-LONGEST : goal.returns-then-s-gt-LONGEST
returns-then-s-gt-LONGEST c = insert_long _ _ _ _ _ _ _ (lt-ltb _ _ c.if-s-gt-LONGEST.true)

pub returns-then-lim-prefix : goal.returns-then-lim-prefix
returns-then-lim-prefix c = insert_over _ _ _ _ _ _ _ (le-ltb _ _ c.if-s-gt-LONGEST.false) (lt-ltb _ _ c.if-lim-prefix.true)

pub rows_of-rows-requires : goal.rows_of-rows-requires
rows_of-rows-requires c = (both_fit_lem _ _ _ (sym c.has_results.ensures ∙ c.if-not-has_results.false)).0

pub insert_rows-requires : goal.insert_rows-requires
insert_rows-requires c = record { prefix_len_bound = c.if-lim-prefix.false; out_pool_value = (both_fit_lem _ _ _ (sym c.has_results.ensures ∙ c.if-not-has_results.false)).1 }

pub returns : goal.returns
returns c = c.insert_rows.ensures ∙ ap (inserted_in _ _ _ _) c.rows_of-rows.ensures ∙ insert_bytes _ _ _ _ _ _ _ (le-ltb _ _ c.if-s-gt-LONGEST.false) (le-ltb _ _ c.if-lim-prefix.false) (sym c.has_results.ensures ∙ c.if-not-has_results.false)

pub returns-then-not-has_results : goal.returns-then-not-has_results
returns-then-not-has_results c = insert_short _ _ _ _ _ _ _ (le-ltb _ _ c.if-s-gt-LONGEST.false) (le-ltb _ _ c.if-lim-prefix.false) (sym c.has_results.ensures ∙ c.if-not-has_results.true)
