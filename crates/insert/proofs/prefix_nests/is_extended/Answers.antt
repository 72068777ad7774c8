use borrow.Author.Rules.{rules}
use Rattle.insert.proofs.Conflicts.{conflicts}
use Rattle.insert.proofs.prefix_nests.is_extended.Goals as goal

pub overflow_add-w : goal.overflow_add-w
overflow_add-w c = search (conflicts, rules)

pub extends-requires : goal.extends-requires
extends-requires c = search (conflicts, rules)

pub returns-then-place-n : goal.returns-then-place-n
returns-then-place-n c = search (conflicts, rules)

pub returns : goal.returns
returns c = search (conflicts, rules)
