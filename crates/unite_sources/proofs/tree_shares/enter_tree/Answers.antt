use Rattle.unite_sources.proofs.Arranging.{enters}
use Rattle.unite_sources.proofs.Sharing.{tree_bounds}
use borrow.Author.Rules.{rules}
use Rattle.unite_sources.proofs.tree_shares.enter_tree.Goals as goal

pub returns : goal.returns
returns c = search (enters, tree_bounds, rules)
