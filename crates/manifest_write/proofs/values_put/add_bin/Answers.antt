use borrow.Author.Rules.{rules}
use Rattle.manifest_write.proofs.Wrotes.{bytes_part}
use Rattle.manifest_write.proofs.values_put.add_bin.Goals as goal

pub returns : goal.returns
returns c = search (bytes_part, rules)
