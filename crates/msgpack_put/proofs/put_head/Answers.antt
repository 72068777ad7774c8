use Rattle.msgpack_put.proofs.Puts.{tagged_room, put_as}
use Rattle.msgpack_put.proofs.put_head.Goals as goal

pub put_tagged-requires : goal.put_tagged-requires
put_tagged-requires c = tagged_room _ _ c.form-t.result _ c.form-t.ensures.0 c.requires

pub returns : goal.returns
returns c = put_as _ _ _ _ _ _ c.form-t.ensures.0 c.put_tagged.ensures
