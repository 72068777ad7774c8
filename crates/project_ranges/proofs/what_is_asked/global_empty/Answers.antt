use borrow.Author.Rules.{rules}
use Rattle.project_ranges.proofs.Filters.{noops}
use Rattle.project_ranges.proofs.what_is_asked.global_empty.Goals as goal

pub returns-in-Some : goal.returns-in-Some
returns-in-Some c = search (noops, rules)
