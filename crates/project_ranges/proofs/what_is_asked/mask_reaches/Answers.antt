use borrow.Author.Rules.{rules}
use Rattle.project_ranges.proofs.Filters.{masks}
use Rattle.project_ranges.proofs.what_is_asked.mask_reaches.Goals as goal

pub returns-then-n-gt63 : goal.returns-then-n-gt63
returns-then-n-gt63 c = search (masks, rules)

pub returns : goal.returns
returns c = search (masks, rules)
