use borrow.Author.Rules.{rules}
use borrow.Author.Tests.{not-true, not-false}
use Rattle.project_ranges.proofs.Actions.{acts}
use Rattle.project_ranges.proofs.resolve_segment_action.Goals as goal

pub returns-then-not-passes : goal.returns-then-not-passes
returns-then-not-passes c = search (acts, not-true, not-false, rules)

pub returns-then-c : goal.returns-then-c
returns-then-c c = search (acts, not-true, not-false, rules)

pub returns : goal.returns
returns c = search (acts, not-true, not-false, rules)
