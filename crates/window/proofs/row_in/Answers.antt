use borrow.Author.Rules.{rules}
use Rattle.window.proofs.Rows.{rows}
use Rattle.window.proofs.row_in.Goals as goal

pub overflow_add-first : goal.overflow_add-first
overflow_add-first c = record { fits = search (rows, rules) }

pub segment_at-s-requires : goal.segment_at-s-requires
segment_at-s-requires c = search (rows, rules)

pub returns-then-i-rows_in : goal.returns-then-i-rows_in
returns-then-i-rows_in c = search (rows, rules)

pub returns : goal.returns
returns c = search (rows, rules)
