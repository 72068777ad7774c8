use borrow.Author.Rules.{rules}
use Rattle.project_ranges.proofs.Filters.{masks}
use Rattle.project_ranges.proofs.what_is_asked.bit_of.Goals as goal

pub returns-then-i-gt63 : goal.returns-then-i-gt63
returns-then-i-gt63 c = search (masks, rules)
