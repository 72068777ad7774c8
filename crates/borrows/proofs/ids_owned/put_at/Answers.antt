use borrow.Author.Rules.{rules}
use Rattle.borrows.proofs.Putting.{put_here, put_nowhere}
use Rattle.borrows.proofs.ids_owned.put_at.Goals as goal

pub returns-then-at-out : goal.returns-then-at-out
returns-then-at-out c = search (put_here, rules)

pub returns-else-at-out : goal.returns-else-at-out
returns-else-at-out c = search (put_nowhere, rules)
