use Rattle.ids.proofs.Words.{Left}
use Rattle.ids.proofs.names.Given as goal

abbrev pub invariant-loop-words : goal.invariant-loop-words
invariant-loop-words l = Left l.ids l.x l.words-iterator.rest.now l.words-iterator.size
