use mathlib.Core.Path.{ap}
use Rattle.exports_forms.specs.Replies.{told}
use Rattle.exports_forms.proofs.answers.refused_answer.Goals as goal

pub returns : goal.returns
returns c = ap told c.tell-t.ensures
