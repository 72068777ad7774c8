use borrow.Author.Rules.{rules}
use Rattle.project_ranges.proofs.Rows.{owns}
use Rattle.project_ranges.proofs.ranges_owned.own_row.Goals as goal

pub returns : goal.returns
returns c = search (owns, rules)
