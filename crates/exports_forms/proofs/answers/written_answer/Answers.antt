use mathlib.Core.Path.{refl}
use Rattle.exports_forms.proofs.answers.written_answer.Goals as goal

pub returns-in-Ok : goal.returns-in-Ok
returns-in-Ok c = rw (c.in-Ok.is, c.given.ensures) (record { wrote = refl; owned = refl })

pub returns-in-Err : goal.returns-in-Err
returns-in-Err c = rw c.in-Err.is (record { wrote = c.refused_answer.ensures; owned = c.refused_answer.ensures })
