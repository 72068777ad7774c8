use borrow.Author.Rules.{rules}
use Rattle.insert.proofs.Conflicts.{conflicts}
use Rattle.insert.proofs.prefix_nests.is_begun.Goals as goal

pub overflow_add-w : goal.overflow_add-w
overflow_add-w c = search (conflicts, rules)

pub leads-requires : goal.leads-requires
leads-requires c = search (conflicts, rules)

pub returns-then-place-gt0 : goal.returns-then-place-gt0
returns-then-place-gt0 c = search (conflicts, rules)

pub returns : goal.returns
returns c = search (conflicts, rules)
