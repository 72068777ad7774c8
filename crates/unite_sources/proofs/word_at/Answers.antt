use Rattle.unite_sources.proofs.Words.{words}
use borrow.Author.Rules.{rules}
use Rattle.unite_sources.proofs.word_at.Goals as goal

pub returns-then-k-t : goal.returns-then-k-t
returns-then-k-t c = search (words, rules)

pub returns-else-k-t : goal.returns-else-k-t
returns-else-k-t c = search (words, rules)

pub returns-else-b-t : goal.returns-else-b-t
returns-else-b-t c = search (words, rules)
