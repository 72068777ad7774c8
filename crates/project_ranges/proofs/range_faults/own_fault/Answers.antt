use borrow.Author.Rules.{rules}
use Rattle.project_ranges.proofs.Faults.{wholes}
use Rattle.project_ranges.proofs.range_faults.own_fault.Goals as goal

pub returns : goal.returns
returns c = search (wholes, rules)

pub returns-in-Some : goal.returns-in-Some
returns-in-Some c = search (wholes, rules)
