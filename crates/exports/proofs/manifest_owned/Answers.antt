use mathlib.Core.Path.{ap}
use Rattle.exports_forms.specs.Replies.{owned_reply}
use Rattle.exports.proofs.manifest_owned.Goals as goal

pub returns : goal.returns
returns c = rw c.written_answer.ensures.owned (ap owned_reply (rw c.limits_01-lim.ensures at c.owned-x.ensures))
