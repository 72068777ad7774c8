use Rattle.unite_ranges.proofs.Wide.{wides}
use borrow.Author.Rules.{rules}
use Rattle.unite_ranges.proofs.effective_range.Goals as goal

pub returns : goal.returns
returns c = search (wides, rules)
