use mathlib.Core.Path.{◌∙◌}
use Rattle.records.proofs.Codes.{optional_rest}
use Rattle.unite_trees.proofs.trees_measured.mark_at.Goals as goal

pub returns-in-0 : goal.returns-in-0
returns-in-0 g c = rw (← c.word-3.ensures, c.in-0.is)

pub returns-in_default : goal.returns-in_default
returns-in_default g c = rw (← c.word-3.ensures) (optional_rest _ _ _ _ _ c.in_default.in_default-own.rest.1 (c.of-x.ensures ∙ rw (c.word.ensures, c.word-2.ensures)))
