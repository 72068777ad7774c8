use mathlib.Core.Path.{ap}
use Rattle.exports_forms.specs.Replies.{wrote_reply}
use Rattle.exports.proofs.manifest_read.Goals as goal

pub returns : goal.returns
returns c = rw c.written_answer.ensures.wrote (ap wrote_reply (rw (c.limits_01-lim.ensures, c.room_fill-most.ensures) at c.read-w.ensures))
