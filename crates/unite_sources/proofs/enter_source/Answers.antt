use Rattle.unite_sources.proofs.Arranging.{enters}
use borrow.Author.Rules.{rules}
use Rattle.unite_sources.proofs.enter_source.Goals as goal

pub returns : goal.returns
returns c = search (enters, rules)
