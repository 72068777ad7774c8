use Rattle.records.specs.Words.{tree_words, segment_words}
use Rattle.encoded_union.specs.Steps.{source_words}
use Rattle.encoded_union.proofs.source_words.Goals as goal

pub returns : goal.returns
unfolding source_words tree_words segment_words
returns c = rw (c.segment_words-w.ensures, c.name_code.ensures, c.name_place-name.ensures.0, c.name_place-name.ensures.1)
