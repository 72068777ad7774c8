use borrow.Author.Rules.{rules}
use Rattle.project_ranges.proofs.Rows.{owns}
use Rattle.project_ranges.proofs.ranges_owned.own_at.Goals as goal

pub returns-then-place-own : goal.returns-then-place-own
returns-then-place-own c = search (owns, rules)

pub returns : goal.returns
returns c = search (owns, rules)
