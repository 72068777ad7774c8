use Rattle.unite_sources.proofs.Gathering.{segment_prefix}
use borrow.Author.Rules.{rules}
use Rattle.unite_sources.proofs.prefix_lists.enter_segment.Goals as goal

pub returns : goal.returns
returns c = search (segment_prefix, rules)
