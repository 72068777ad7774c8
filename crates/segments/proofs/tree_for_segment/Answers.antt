use borrow.Author.Rules.{rules}
use Rattle.segments.proofs.Answers.{lookups}
use Rattle.segments.proofs.tree_for_segment.Goals as goal

pub returns-then-lim-prefix : goal.returns-then-lim-prefix
returns-then-lim-prefix c = search (lookups, rules)

pub returns-in-Ok : goal.returns-in-Ok
returns-in-Ok c = search (lookups, rules)

pub returns-in-Err : goal.returns-in-Err
returns-in-Err c = search (lookups, rules)
