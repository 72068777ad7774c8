use mathlib.Core.Path.{ap, ◌∙◌}
use Rattle.exports_forms.specs.Replies.{told}
use Rattle.segments.specs.Lookup.{looked}
use Rattle.exports.proofs.manifest_lookup.Goals as goal

pub returns : goal.returns
returns c = c.looked_answer.ensures ∙ ap (λ x. told (looked x)) (rw c.limits_01-lim.ensures at c.lookup-x.ensures)
