use borrow.Author.Rules.{rules}
use Rattle.borrows.proofs.Renewing.{final_none}
use Rattle.borrows.proofs.clone_lenders.final_of.Goals as goal

pub returns-in-None : goal.returns-in-None
returns-in-None c = search (final_none, rules)
