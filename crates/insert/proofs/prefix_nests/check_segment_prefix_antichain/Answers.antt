use borrow.Author.Rules.{rules}
use Rattle.insert.proofs.Conflicts.{conflicts}
use Rattle.insert.proofs.prefix_nests.check_segment_prefix_antichain.Goals as goal

pub returns-then-is_extended : goal.returns-then-is_extended
returns-then-is_extended c = search (conflicts, rules)

pub overflow_sub-result : goal.overflow_sub-result
overflow_sub-result c = search (conflicts, rules)

pub returns-then-is_begun : goal.returns-then-is_begun
returns-then-is_begun c = search (conflicts, rules)

pub returns : goal.returns
returns c = search (conflicts, rules)
