use borrow.Author.Tests.{not-true, not-false}
use Rattle.segments.proofs.Fronts.{leads}
use Rattle.unite_sources.proofs.Listing.{spot_none}
use borrow.Author.Rules.{rules}
use Rattle.unite_sources.proofs.prefix_lists.place_of.Goals as goal

pub loop-k-init : goal.loop-k-init
loop-k-init c = spot_none _ _ _ _

pub returns-then-not-is_under : goal.returns-then-not-is_under
returns-then-not-is_under c = search (leads, not-true, rules)

pub loop-k-preserved : goal.loop-k-preserved
loop-k-preserved c = search (leads, not-false, rules)

pub returns : goal.returns
returns c = search (leads, rules)
