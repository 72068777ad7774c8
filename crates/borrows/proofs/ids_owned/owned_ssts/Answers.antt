use borrow.Author.Rules.{rules}
use Rattle.borrows.proofs.OwnedAnswers.{judged_so, owned_broken, owned_lawful}
use Rattle.borrows.proofs.ids_owned.owned_ssts.Goals as goal

pub owned_judged-requires : goal.owned_judged-requires
owned_judged-requires c = search (judged_so, rules)

pub returns-in-Ok : goal.returns-in-Ok
returns-in-Ok c = search (owned_lawful, rules)

pub returns-in-Err : goal.returns-in-Err
returns-in-Err c = search (owned_broken, rules)
