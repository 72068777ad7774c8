use Rattle.unite_ranges.proofs.Placed.{rows_read}
use borrow.Author.Rules.{rules}
use Rattle.unite_ranges.proofs.overlap_at.Goals as goal

pub returns : goal.returns
returns c = search (rows_read, rules)
