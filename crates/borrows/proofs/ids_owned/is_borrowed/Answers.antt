use borrow.Author.Rules.{rules}
use Rattle.borrows.proofs.Owning.{is_borrowed_lem}
use Rattle.borrows.proofs.ids_owned.is_borrowed.Goals as goal

pub returns : goal.returns
returns c = search (is_borrowed_lem, rules)
