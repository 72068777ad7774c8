use borrow.Author.Rules.{rules}
use Rattle.merge.proofs.Rowwise.{fills}
use Rattle.merge.proofs.merge_steps.filled_keep.Goals as goal

pub returns-then-is_empty_tree : goal.returns-then-is_empty_tree
returns-then-is_empty_tree c = search (fills, rules)

pub returns : goal.returns
returns c = search (fills, rules)
