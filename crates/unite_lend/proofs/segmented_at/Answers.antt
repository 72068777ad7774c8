use Rattle.unite_lend.proofs.Below.{segmented_read}
use borrow.Author.Rules.{rules}
use Rattle.unite_lend.proofs.segmented_at.Goals as goal

pub returns : goal.returns
returns c = search (segmented_read, rules)
