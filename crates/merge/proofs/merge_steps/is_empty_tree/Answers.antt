use borrow.Author.Rules.{rules}
use Rattle.merge.proofs.Rowwise.{empties}
use Rattle.merge.proofs.merge_steps.is_empty_tree.Goals as goal

pub returns-then-held-eq0 : goal.returns-then-held-eq0
returns-then-held-eq0 c = search (empties, rules)

pub returns : goal.returns
returns c = search (empties, rules)
