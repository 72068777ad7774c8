use borrow.Author.Rules.{rules}
use Rattle.project_ranges.proofs.Rows.{overs}
use Rattle.project_ranges.proofs.ranges_owned.rows_counted.Goals as goal

pub returns-then-rows-segments : goal.returns-then-rows-segments
returns-then-rows-segments c = search (overs, rules)

pub returns : goal.returns
returns c = search (overs, rules)
