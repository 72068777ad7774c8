use mathlib.Core.Path.{ap, ◌∙◌}
use Rattle.exports_tables.specs.Calls.{bare, headed}
use Rattle.exports_tables.proofs.head_forms.inserted_answer.Goals as goal

pub returns-in-Ok-Found : goal.returns-in-Ok-Found
returns-in-Ok-Found c = rw (c.in-Ok-Found.is, rw c.in-Ok-Found.is at c.in-Ok-Found.field-0-is) (c.bare_answer.ensures ∙ ap bare c.given.ensures)

pub returns-in-Ok-Entered : goal.returns-in-Ok-Entered
returns-in-Ok-Entered c = rw (c.in-Ok-Entered.is, rw c.in-Ok-Entered.is at c.in-Ok-Entered.field-0-is) (c.headed_answer.ensures ∙ ap (λ a. headed a c.in-Ok-Entered.m) c.given-in-Ok-Entered.ensures)

pub returns-in-Err : goal.returns-in-Err
returns-in-Err c = rw c.in-Err.is (c.bare_answer-in-Err.ensures ∙ ap bare c.refused_answer.ensures)
