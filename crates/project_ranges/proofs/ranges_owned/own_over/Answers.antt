use borrow.Author.Rules.{rules}
use Rattle.project_ranges.proofs.Rows.{clears}
use Rattle.project_ranges.proofs.ranges_owned.own_over.Goals as goal

pub loop-k-init : goal.loop-k-init
loop-k-init c = search (clears, rules)

pub row_over-requires : goal.row_over-requires
row_over-requires c = search (clears, rules)

pub returns-then-row_over : goal.returns-then-row_over
returns-then-row_over c = search (clears, rules)

pub loop-k-preserved : goal.loop-k-preserved
loop-k-preserved c = search (clears, rules)

pub returns : goal.returns
returns c = search (clears, rules)
