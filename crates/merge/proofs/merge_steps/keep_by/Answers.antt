use borrow.Author.Rules.{rules}
use Rattle.merge.proofs.Rowwise.{sources}
use Rattle.merge.proofs.merge_steps.keep_by.Goals as goal

pub returns-in-Writer : goal.returns-in-Writer
returns-in-Writer c = search (sources, rules)

pub returns-in-Compactor : goal.returns-in-Compactor
returns-in-Compactor c = search (sources, rules)
