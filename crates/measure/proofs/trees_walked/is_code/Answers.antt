use borrow.Author.Rules.{rules}
use Rattle.measure.proofs.Walks.{is_opened}
use Rattle.measure.proofs.trees_walked.is_code.Goals as goal

pub returns : goal.returns
returns c = search (is_opened, rules)
