use borrow.Author.Rules.{rules}
use Rattle.project_ranges.proofs.Filters.{masks}
use Rattle.project_ranges.proofs.what_is_asked.mask_over.Goals as goal

pub returns-in-Some : goal.returns-in-Some
returns-in-Some c = search (masks, rules)
