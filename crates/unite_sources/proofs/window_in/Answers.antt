use Rattle.unite_sources.proofs.Words.{window_read}
use borrow.Author.Rules.{rules}
use Rattle.unite_sources.proofs.window_in.Goals as goal

pub returns : goal.returns
returns c = search (window_read, rules)
