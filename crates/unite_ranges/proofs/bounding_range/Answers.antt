use Rattle.unite_ranges.proofs.Wide.{bounds}
use borrow.Author.Rules.{rules}
use Rattle.unite_ranges.proofs.bounding_range.Goals as goal

pub returns : goal.returns
returns c = search (bounds, rules)
