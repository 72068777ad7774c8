use borrow.Author.Rules.{rules}
use Rattle.merge.proofs.Rowwise.{orders}
use Rattle.merge.proofs.merge_steps.step_by.Goals as goal

pub returns-in-Less : goal.returns-in-Less
returns-in-Less c = search (orders, rules)

pub returns-in-Equal : goal.returns-in-Equal
returns-in-Equal c = search (orders, rules)

pub returns-in-Greater : goal.returns-in-Greater
returns-in-Greater c = search (orders, rules)
