use Rattle.unite_ranges.specs.Steps.{row_words}
use Rattle.unite_ranges.proofs.row_words.Goals as goal

pub returns : goal.returns
unfolding row_words
returns c = cc
