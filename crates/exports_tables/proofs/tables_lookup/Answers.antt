use mathlib.Core.Path.{ap, ◌∙◌}
use mir.Facts.{to_z-of_z}
use Rattle.exports_forms.specs.Replies.{told}
use Rattle.segments.specs.Lookup.{looked}
use Rattle.exports_tables.proofs.tables_lookup.Goals as goal

pub returns : goal.returns
returns c = c.looked_answer.ensures ∙ ap (λ x. told (looked x)) (rw (c.limits_01-lim.ensures, c.head_at-m.ensures, to_z-of_z c.ranges.tick) at c.tree_for_segment-x.ensures)
