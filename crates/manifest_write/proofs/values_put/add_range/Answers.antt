use borrow.Author.Rules.{rules}
use Rattle.manifest_write.proofs.Wrotes.{parts}
use Rattle.manifest_write.proofs.values_put.add_range.Goals as goal

pub returns : goal.returns
returns c = search (parts, rules)
