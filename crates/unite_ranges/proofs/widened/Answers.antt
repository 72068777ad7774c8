use Rattle.unite_ranges.proofs.Wide.{wides}
use borrow.Author.Rules.{rules}
use Rattle.unite_ranges.proofs.widened.Goals as goal

pub returns : goal.returns
returns c = search (wides, rules)
