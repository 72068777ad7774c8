use Rattle.unite_sources.proofs.Words.{source_views_lem}
use borrow.Author.Rules.{rules}
use Rattle.unite_sources.proofs.source_bounds.Goals as goal

pub returns : goal.returns
returns c = search (source_views_lem, rules)
