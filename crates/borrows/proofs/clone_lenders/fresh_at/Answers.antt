use borrow.Author.Rules.{rules}
use Rattle.borrows.proofs.Renewing.{uuid_at}
use Rattle.borrows.proofs.clone_lenders.fresh_at.Goals as goal

pub returns : goal.returns
returns c = search (uuid_at, rules)
