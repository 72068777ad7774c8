use borrow.Author.Rules.{rules}
use borrow.Author.Tests.{not-true, not-false}
use Rattle.project_ranges.proofs.Faults.{trees}
use Rattle.project_ranges.proofs.range_faults.tree_fault.Goals as goal

pub returns-then-not-passes : goal.returns-then-not-passes
returns-then-not-passes c = search (trees, not-true, not-false, rules)

pub returns-then-c : goal.returns-then-c
returns-then-c c = search (trees, not-true, not-false, rules)

pub returns : goal.returns
returns c = search (trees, not-true, not-false, rules)
