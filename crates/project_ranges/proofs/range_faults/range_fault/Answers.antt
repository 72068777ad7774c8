use borrow.Author.Rules.{rules}
use Rattle.project_ranges.proofs.Faults.{ranges}
use Rattle.project_ranges.proofs.range_faults.range_fault.Goals as goal

pub returns-then-holds_none : goal.returns-then-holds_none
returns-then-holds_none c = search (ranges, rules)

pub returns-then-is_contained : goal.returns-then-is_contained
returns-then-is_contained c = search (ranges, rules)

pub returns : goal.returns
returns c = search (ranges, rules)
