use borrow.Author.Rules.{rules}
use Rattle.project_ranges.proofs.Rows.{overs}
use Rattle.project_ranges.proofs.ranges_owned.row_over.Goals as goal

pub returns-then-own-b-gt2 : goal.returns-then-own-b-gt2
returns-then-own-b-gt2 c = search (overs, rules)

pub returns-then-own-b-gt2-2 : goal.returns-then-own-b-gt2-2
returns-then-own-b-gt2-2 c = search (overs, rules)

pub returns : goal.returns
returns c = search (overs, rules)
