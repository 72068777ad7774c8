use borrow.Author.Rules.{rules}
use Rattle.manifest_write.proofs.Wrotes.{values}
use Rattle.manifest_write.proofs.values_put.add_head.Goals as goal

pub put_head-requires : goal.put_head-requires
put_head-requires c = search (values, rules)

pub returns-then-has : goal.returns-then-has
returns-then-has c = search (values, rules)

pub returns : goal.returns
returns c = search (values, rules)
