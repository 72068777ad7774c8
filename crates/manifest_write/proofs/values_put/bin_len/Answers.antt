use borrow.Author.Rules.{rules}
use Rattle.manifest_write.proofs.Heads.{bin_length, bin_fits}
use Rattle.manifest_write.proofs.values_put.bin_len.Goals as goal

pub overflow_add-result : goal.overflow_add-result
overflow_add-result c = search (bin_fits, rules)

pub returns : goal.returns
returns c = search (bin_length, rules)
