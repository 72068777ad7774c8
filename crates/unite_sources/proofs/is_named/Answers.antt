use Rattle.unite_sources.proofs.Naming.{named_is}
use borrow.Author.Rules.{rules}
use Rattle.unite_sources.proofs.is_named.Goals as goal

pub returns : goal.returns
returns c = search (named_is, rules)
