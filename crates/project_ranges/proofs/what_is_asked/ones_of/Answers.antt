use borrow.Author.Rules.{rules}
use Rattle.project_ranges.proofs.Filters.{masks}
use Rattle.project_ranges.proofs.what_is_asked.ones_of.Goals as goal

pub overflow_cast-result : goal.overflow_cast-result
overflow_cast-result c = search (masks, rules)
