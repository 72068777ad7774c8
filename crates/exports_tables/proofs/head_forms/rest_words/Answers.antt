use Rattle.exports_tables.specs.Head.{rest_words}
use Rattle.exports_tables.proofs.head_forms.rest_words.Goals as goal

pub returns : goal.returns
unfolding rest_words
returns c = rw (c.flag_word-initialized.ensures, c.name_word-name.ensures)
