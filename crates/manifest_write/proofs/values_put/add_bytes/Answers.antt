use borrow.Author.Rules.{rules}
use Rattle.manifest_write.proofs.Wrotes.{bytes_room, bytes_stored, counted}
use Rattle.manifest_write.proofs.values_put.add_bytes.Goals as goal

pub put_bin-requires : goal.put_bin-requires
put_bin-requires c = let a = c.args in bytes_room a.out.now a.at _ a.k.now _ c.bin_len-n.ensures c.has.ensures c.if-has.true

pub returns-then-has : goal.returns-then-has
returns-then-has c = search (bytes_stored, rules)

pub returns : goal.returns
returns c = search (counted, rules)
