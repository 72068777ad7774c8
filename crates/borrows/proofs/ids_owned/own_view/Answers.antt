use borrow.Author.Rules.{rules}
use Rattle.borrows.proofs.Owning.{own_view}
use Rattle.borrows.proofs.ids_owned.own_view.Goals as goal

pub returns-then-is_borrowed : goal.returns-then-is_borrowed
returns-then-is_borrowed c = search (own_view, rules)

pub overflow_add-result : goal.overflow_add-result
overflow_add-result c = search (own_view, rules)

pub returns : goal.returns
returns c = search (own_view, rules)
