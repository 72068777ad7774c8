use borrow.Author.Rules.{rules}
use Rattle.project_ranges.proofs.Rows.{overs}
use Rattle.project_ranges.proofs.ranges_owned.global_over.Goals as goal

pub returns-in-Some : goal.returns-in-Some
returns-in-Some c = search (overs, rules)
