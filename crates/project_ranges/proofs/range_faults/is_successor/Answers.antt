use borrow.Author.Rules.{rules}
use Rattle.project_ranges.proofs.Contains.{successors}
use Rattle.project_ranges.proofs.range_faults.is_successor.Goals as goal

pub is_grown-requires : goal.is_grown-requires
is_grown-requires c = (search (successors, rules), search (successors, rules))

pub returns-in-None : goal.returns-in-None
returns-in-None c = search (successors, rules)

pub returns-in-Some : goal.returns-in-Some
returns-in-Some c = search (successors, rules)
