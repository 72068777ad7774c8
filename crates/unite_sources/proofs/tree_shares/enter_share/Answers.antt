use mathlib.Core.Path.{refl, ap, ◌∙◌}
use native.Mathlib.Omega.{arith}
use Rattle.lawful.proofs.Loops.{rows}
use Rattle.segments.specs.Lookup.{index_of}
use Rattle.unite_sources.proofs.Sharing.{share_found, share_none}
use borrow.Author.Rules.{rules}
use Rattle.unite_sources.proofs.tree_shares.enter_share.Goals as goal

pub overflow_add-w : goal.overflow_add-w
overflow_add-w c = search (rows, rules)

pub enter_tree-requires : goal.enter_tree-requires
enter_tree-requires c = search (rows, rules)

pub returns-then-j-n : goal.returns-then-j-n
returns-then-j-n c = record { result_after = share_found _ _ _ _ _ c.held-n.ensures (c.index_of-j.ensures ∙ ap (index_of _) c.part.ensures) _ _ c.if-j-n.true c.enter_tree.ensures.result_after; upper_bound = c.enter_tree.ensures.upper_bound; shares_len_unchanged = c.enter_tree.ensures.shares_len_unchanged }

pub returns : goal.returns
returns c = record { result_after = share_none _ _ _ _ _ c.held-n.ensures (c.index_of-j.ensures ∙ ap (index_of _) c.part.ensures) _ c.if-j-n.false; upper_bound = omega arith; shares_len_unchanged = refl }
