use Rattle.unite_lend.proofs.Grouping.{front_read}
use borrow.Author.Rules.{rules}
use Rattle.unite_lend.proofs.front_ids.Goals as goal

pub returns : goal.returns
returns c = search (front_read, rules)
