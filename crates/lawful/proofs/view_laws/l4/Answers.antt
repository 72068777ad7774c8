use Rattle.lawful.proofs.Arms.{both_later, both_not}
use Rattle.lawful.proofs.Rules.{l4_rows}
use Rattle.lawful.proofs.view_laws.l4.Goals as goal

pub returns-then-tree_holds : goal.returns-then-tree_holds
returns-then-tree_holds c = both_later _ _ _ _ (l4_rows _ _) c.tree_holds.ensures _ c.if-tree_holds.true c.segments_hold.ensures

pub returns : goal.returns
returns c = both_not _ _ _ _ (l4_rows _ _) c.tree_holds.ensures c.if-tree_holds.false
