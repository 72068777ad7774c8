use borrow.Author.Rules.{rules}
use Rattle.msgpack_put.proofs.Puts.{tagged_length}
use Rattle.msgpack_put.proofs.head_len.Goals as goal

pub returns : goal.returns
returns c = search (tagged_length c.form-t.result _ c.form-t.ensures.0, rules)
