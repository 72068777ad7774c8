use borrow.Author.Rules.{rules}
use Rattle.segments.proofs.Answers.{overs}
use Rattle.segments.proofs.is_long.Goals as goal

pub returns-in-Unbounded : goal.returns-in-Unbounded
returns-in-Unbounded c = search (overs, rules)

pub returns-in-Included : goal.returns-in-Included
returns-in-Included c = search (overs, rules)

pub returns-in-Excluded : goal.returns-in-Excluded
returns-in-Excluded c = search (overs, rules)
