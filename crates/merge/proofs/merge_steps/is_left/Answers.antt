use borrow.Author.Rules.{rules}
use Rattle.merge.proofs.Trees.{lefts}
use Rattle.merge.proofs.merge_steps.is_left.Goals as goal

pub returns-then-marks : goal.returns-then-marks
returns-then-marks c = search (lefts, rules)

pub returns : goal.returns
returns c = search (lefts, rules)
