use borrow.Author.Rules.{rules}
use borrow.Author.Tests.{not-false}
use Rattle.lawful.proofs.Loops.{rows}
use Rattle.segments.proofs.Fronts.{leads}
use Rattle.segments.proofs.Answers.{index_none}
use Rattle.segments.proofs.index_of.Goals as goal

pub loop-k-init : goal.loop-k-init
loop-k-init c = search (index_none, rules)

pub overflow_add-w : goal.overflow_add-w
overflow_add-w c = search (rows, rules)

pub is_other-requires : goal.is_other-requires
is_other-requires c = search (rows, rules)

pub returns-then-not-is_other : goal.returns-then-not-is_other
returns-then-not-is_other c = search (leads, rules)

pub loop-k-preserved : goal.loop-k-preserved
loop-k-preserved c = search (leads, not-false, rules)

pub returns : goal.returns
returns c = search (leads, rules)
