use borrow.Author.Rules.{rules}
use Rattle.segments.proofs.Answers.{overs}
use Rattle.segments.proofs.range_over.Goals as goal

pub returns-then-is_over : goal.returns-then-is_over
returns-then-is_over c = search (overs, rules)

pub returns : goal.returns
returns c = search (overs, rules)
