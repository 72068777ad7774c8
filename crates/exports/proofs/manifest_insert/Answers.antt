use mathlib.Core.Path.{ap}
use Rattle.exports.specs.Calls.{insert_reply}
use Rattle.exports.proofs.manifest_insert.Goals as goal

pub returns : goal.returns
returns c = rw c.inserted_answer.ensures (ap insert_reply (rw (c.limits_01-lim.ensures, c.room_fill-most.ensures) at c.insert-x.ensures))
