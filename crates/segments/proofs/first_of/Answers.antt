use borrow.Author.Rules.{rules}
use borrow.Author.Tests.{not-false}
use Rattle.lawful.proofs.Loops.{rows}
use Rattle.segments.proofs.Fronts.{leads}
use Rattle.segments.proofs.Answers.{first_none}
use Rattle.segments.proofs.first_of.Goals as goal

pub loop-k-init : goal.loop-k-init
loop-k-init c = search (first_none, rules)

pub overflow_add-w : goal.overflow_add-w
overflow_add-w c = search (rows, rules)

pub is_before-requires : goal.is_before-requires
is_before-requires c = search (rows, rules)

pub returns-then-not-is_before : goal.returns-then-not-is_before
returns-then-not-is_before c = search (leads, rules)

pub loop-k-preserved : goal.loop-k-preserved
loop-k-preserved c = search (leads, not-false, rules)

pub returns : goal.returns
returns c = search (leads, rules)
