use Rattle.unite_sources.proofs.Listing.{rows_read}
use borrow.Author.Rules.{rules}
use Rattle.unite_sources.proofs.prefix_lists.begins_next.Goals as goal

pub returns : goal.returns
returns c = search (rows_read, rules)
