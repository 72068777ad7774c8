use borrow.Author.Rules.{rules}
use Rattle.project_ranges.proofs.Filters.{masks}
use Rattle.project_ranges.proofs.what_is_asked.passes.Goals as goal

pub returns-else-place-eq0 : goal.returns-else-place-eq0
returns-else-place-eq0 c = search (masks, rules)
