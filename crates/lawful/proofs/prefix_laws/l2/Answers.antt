use mathlib.Core.Path.{sym, ◌∙◌}
use Rattle.lawful.proofs.Rules.{l2_rows}
use Rattle.lawful.proofs.prefix_laws.l2.Goals as goal

pub returns : goal.returns
returns c = c.ascends.ensures ∙ sym (l2_rows _ _)
