use Rattle.unite_sources.proofs.Listing.{helds}
use borrow.Author.Rules.{rules}
use Rattle.unite_sources.proofs.prefix_lists.is_held.Goals as goal

pub returns-then-n-i : goal.returns-then-n-i
returns-then-n-i c = search (helds, rules)

pub returns : goal.returns
returns c = search (helds, rules)
