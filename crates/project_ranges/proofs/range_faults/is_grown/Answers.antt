use borrow.Author.Rules.{rules}
use Rattle.project_ranges.proofs.Contains.{successors}
use Rattle.project_ranges.proofs.range_faults.is_grown.Goals as goal

pub returns-then-k-n : goal.returns-then-k-n
returns-then-k-n c = search (successors, rules)

pub returns-then-k-i : goal.returns-then-k-i
returns-then-k-i c = search (successors, rules)

pub returns-then-k-i-gt1 : goal.returns-then-k-i-gt1
returns-then-k-i-gt1 c = search (successors, rules)

pub returns : goal.returns
returns c = search (successors, rules)
