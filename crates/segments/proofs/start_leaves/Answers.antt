use borrow.Author.Rules.{rules}
use Rattle.segments.proofs.Answers.{starts}
use Rattle.segments.proofs.start_leaves.Goals as goal

pub returns-in-Unbounded : goal.returns-in-Unbounded
returns-in-Unbounded c = search (starts, rules)

pub returns-in-Included : goal.returns-in-Included
returns-in-Included c = search (starts, rules)

pub returns-in-Excluded : goal.returns-in-Excluded
returns-in-Excluded c = search (starts, rules)
