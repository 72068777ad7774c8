use mathlib.Core.Path.{refl}
use Rattle.unite_groups.specs.Steps.{group_words}
use Rattle.unite_groups.proofs.group_rows.group_words.Goals as goal

pub returns : goal.returns
unfolding group_words
returns c = refl
