use borrow.Author.Rules.{rules}
use Rattle.project_ranges.proofs.Contains.{ends}
use Rattle.project_ranges.proofs.range_faults.end_stays.Goals as goal

pub returns-in-Unbounded : goal.returns-in-Unbounded
returns-in-Unbounded c = search (ends, rules)

pub returns-in-Included : goal.returns-in-Included
returns-in-Included c = search (ends, rules)

pub returns-in-Excluded : goal.returns-in-Excluded
returns-in-Excluded c = search (ends, rules)
