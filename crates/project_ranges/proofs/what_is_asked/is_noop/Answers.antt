use borrow.Author.Rules.{rules}
use Rattle.project_ranges.proofs.Filters.{noops}
use Rattle.project_ranges.proofs.what_is_asked.is_noop.Goals as goal

pub returns-in-None-f : goal.returns-in-None-f
returns-in-None-f c = search (noops, rules)

pub returns-in-Some-f : goal.returns-in-Some-f
returns-in-Some-f c = search (noops, rules)

pub returns-in-Some : goal.returns-in-Some
returns-in-Some c = search (noops, rules)
