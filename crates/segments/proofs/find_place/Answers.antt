use borrow.Author.Rules.{rules}
use borrow.Author.Tests.{not-false}
use Rattle.lawful.proofs.Loops.{rows}
use Rattle.segments.proofs.Fronts.{leads}
use Rattle.segments.proofs.Places.{place_none}
use Rattle.segments.proofs.find_place.Goals as goal

pub loop-k-init : goal.loop-k-init
loop-k-init c = search (place_none, rules)

pub overflow_add-w : goal.overflow_add-w
overflow_add-w c = search (rows, rules)

pub is_under-requires : goal.is_under-requires
is_under-requires c = search (rows, rules)

pub returns-then-not-is_under : goal.returns-then-not-is_under
returns-then-not-is_under c = search (leads, rules)

pub loop-k-preserved : goal.loop-k-preserved
loop-k-preserved c = search (leads, not-false, rules)

pub returns : goal.returns
returns c = search (leads, rules)
