use borrow.Author.Rules.{rules}
use borrow.Author.Tests.{not-false}
use Rattle.lawful.proofs.Loops.{rows}
use Rattle.segments.proofs.Fronts.{leads}
use Rattle.segments.proofs.Answers.{past_none}
use Rattle.segments.proofs.past_of.Goals as goal

pub loop-k-init : goal.loop-k-init
loop-k-init c = search (past_none, rules)

pub overflow_add-w : goal.overflow_add-w
overflow_add-w c = search (rows, rules)

pub is_reached-requires : goal.is_reached-requires
is_reached-requires c = search (rows, rules)

pub returns-then-not-is_reached : goal.returns-then-not-is_reached
returns-then-not-is_reached c = search (leads, rules)

pub loop-k-preserved : goal.loop-k-preserved
loop-k-preserved c = search (leads, not-false, rules)

pub returns : goal.returns
returns c = search (leads, rules)
