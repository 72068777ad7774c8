use borrow.Author.Rules.{rules}
use Rattle.segments.proofs.Answers.{trees}
use Rattle.segments.proofs.tree_of.Goals as goal

pub returns-then-prefix-eq0 : goal.returns-then-prefix-eq0
returns-then-prefix-eq0 c = search (trees, rules)

pub returns-then-i-n : goal.returns-then-i-n
returns-then-i-n c = search (trees, rules)

pub returns : goal.returns
returns c = search (trees, rules)
