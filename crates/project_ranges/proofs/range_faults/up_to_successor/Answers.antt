use borrow.Author.Rules.{rules}
use Rattle.project_ranges.proofs.Contains.{ups}
use Rattle.project_ranges.proofs.range_faults.up_to_successor.Goals as goal

pub returns-then-below_successor : goal.returns-then-below_successor
returns-then-below_successor c = search (ups, rules)

pub returns : goal.returns
returns c = search (ups, rules)
