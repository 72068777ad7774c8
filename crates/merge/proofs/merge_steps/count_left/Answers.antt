use borrow.Author.Rules.{rules}
use borrow.Author.Tests.{not-true, not-false}
use Rattle.lawful.proofs.Loops.{rows}
use Rattle.segments.proofs.Fronts.{leads}
use Rattle.merge.proofs.Trees.{left_none}
use Rattle.merge.proofs.merge_steps.count_left.Goals as goal

pub loop-k-init : goal.loop-k-init
loop-k-init c = search (left_none, rules)

pub overflow_add-l0 : goal.overflow_add-l0
overflow_add-l0 c = search (rows, rules)

pub is_left-requires : goal.is_left-requires
is_left-requires c = search (rows, rules)

pub returns-then-not-is_left : goal.returns-then-not-is_left
returns-then-not-is_left c = search (leads, not-true, rules)

pub loop-k-preserved : goal.loop-k-preserved
loop-k-preserved c = search (leads, not-false, rules)

pub returns : goal.returns
returns c = search (leads, rules)
