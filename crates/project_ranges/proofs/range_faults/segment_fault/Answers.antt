use borrow.Author.Rules.{rules}
use Rattle.project_ranges.proofs.Faults.{segment_by}
use Rattle.project_ranges.proofs.range_faults.segment_fault.Goals as goal

pub returns : goal.returns
returns c = search (segment_by, rules)
