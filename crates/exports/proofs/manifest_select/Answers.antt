use mathlib.Core.Path.{sym, ap, ◌∙◌}
use Rattle.exports_forms.specs.Replies.{told}
use Rattle.exports.proofs.Selects.{select_odd, select_even}
use Rattle.segments.specs.Select.{selected}
use Rattle.exports.proofs.manifest_select.Goals as goal

pub returns-then-is_odd : goal.returns-then-is_odd
returns-then-is_odd c = c.refused_answer.ensures ∙ ap (λ x. told (selected x)) (select_odd _ _ _ _ (sym c.is_odd.ensures ∙ c.if-is_odd.true))

pub returns : goal.returns
returns c = c.selected_answer.ensures ∙ ap (λ x. told (selected x)) ((rw (c.limits_01-lim.ensures, c.range_arg-r.ensures) at c.select-x.ensures) ∙ select_even _ _ _ _ (sym c.is_odd.ensures ∙ c.if-is_odd.false))
