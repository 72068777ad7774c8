use borrow.Author.Rules.{rules}
use Rattle.insert.proofs.Conflicts.{conflicts}
use Rattle.insert.proofs.Held.{helds}
use Rattle.insert.proofs.prefix_nests.is_held.Goals as goal

pub overflow_add-w : goal.overflow_add-w
overflow_add-w c = search (conflicts, rules)

pub is_other-requires : goal.is_other-requires
is_other-requires c = search (conflicts, rules)

pub returns-then-place-n : goal.returns-then-place-n
returns-then-place-n c = search (helds, rules)

pub returns : goal.returns
returns c = search (helds, rules)
