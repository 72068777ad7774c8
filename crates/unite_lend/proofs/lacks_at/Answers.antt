use Rattle.unite_lend.proofs.Below.{lacks_read}
use borrow.Author.Rules.{rules}
use Rattle.unite_lend.proofs.lacks_at.Goals as goal

pub returns : goal.returns
returns c = search (lacks_read, rules)
