use Rattle.exports_union.proofs.Unions.{union_replies}
use Rattle.exports_union.proofs.manifest_union.Goals as goal

pub returns : goal.returns
returns c = union_replies _ _ _ _ _ _ _ _ _ _ _ _ _ _ c.limits_01-lim.ensures c.room_fill-most.ensures c.written_answer.ensures.wrote c.union-w.ensures
