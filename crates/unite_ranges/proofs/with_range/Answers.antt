use Rattle.unite_ranges.proofs.Wide.{wides}
use borrow.Author.Rules.{rules}
use Rattle.unite_ranges.proofs.with_range.Goals as goal

pub returns-in-None : goal.returns-in-None
returns-in-None c = search (wides, rules)

pub returns-in-Some : goal.returns-in-Some
returns-in-Some c = search (wides, rules)
