use borrow.Author.Rules.{rules}
use Rattle.project_ranges.proofs.Contains.{ors}
use Rattle.project_ranges.proofs.ranges_owned.end_or.Goals as goal

pub returns-in-Included : goal.returns-in-Included
returns-in-Included c = search (ors, rules)

pub returns-in-Excluded : goal.returns-in-Excluded
returns-in-Excluded c = search (ors, rules)
