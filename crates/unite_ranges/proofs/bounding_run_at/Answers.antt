use Rattle.unite_ranges.proofs.Wide.{bounds}
use borrow.Author.Rules.{rules}
use Rattle.unite_ranges.proofs.bounding_run_at.Goals as goal

pub returns : goal.returns
returns c = search (bounds, rules)
