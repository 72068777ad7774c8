use borrow.Author.Rules.{rules}
use Rattle.segments.proofs.Answers.{selects}
use Rattle.segments.proofs.select_segments.Goals as goal

pub returns-then-range_over : goal.returns-then-range_over
returns-then-range_over c = search (selects, rules)

pub returns-then-is_empty : goal.returns-then-is_empty
returns-then-is_empty c = search (selects, rules)

pub returns-else-is_empty : goal.returns-else-is_empty
returns-else-is_empty c = search (selects, rules)

pub returns-in-Err : goal.returns-in-Err
returns-in-Err c = search (selects, rules)
