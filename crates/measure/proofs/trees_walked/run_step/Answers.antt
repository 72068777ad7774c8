use borrow.Author.Rules.{rules}
use Rattle.measure.proofs.Walks.{run_ids}
use Rattle.measure.proofs.trees_walked.run_step.Goals as goal

pub returns-then-r-ge4294967296 : goal.returns-then-r-ge4294967296
returns-then-r-ge4294967296 c = search (run_ids, rules)

pub returns : goal.returns
returns c = search (run_ids, rules)
