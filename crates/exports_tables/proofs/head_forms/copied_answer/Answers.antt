use mathlib.Core.Path.{ap, ◌∙◌}
use Rattle.exports_tables.specs.Calls.{bare, headed}
use Rattle.exports_tables.proofs.head_forms.copied_answer.Goals as goal

pub returns-in-Ok : goal.returns-in-Ok
returns-in-Ok c = rw c.in-Ok.is (c.headed_answer.ensures ∙ ap (λ a. headed a c.in-Ok.m) c.given.ensures)

pub returns-in-Err : goal.returns-in-Err
returns-in-Err c = rw c.in-Err.is (c.bare_answer.ensures ∙ ap bare c.refused_answer.ensures)
