use borrow.Author.Rules.{rules}
use Rattle.segments.proofs.Answers.{overs}
use Rattle.segments.proofs.is_over.Goals as goal

pub returns-then-is_long : goal.returns-then-is_long
returns-then-is_long c = search (overs, rules)

pub returns : goal.returns
returns c = search (overs, rules)
