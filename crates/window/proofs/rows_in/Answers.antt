use borrow.Author.Rules.{rules}
use Rattle.window.proofs.Rows.{rows}
use Rattle.window.proofs.rows_in.Goals as goal

pub returns-then-first-end : goal.returns-then-first-end
returns-then-first-end c = search (rows, rules)

pub returns : goal.returns
returns c = search (rows, rules)
