use Rattle.lawful.proofs.Arms.{both_later, both_not}
use Rattle.lawful.proofs.Rules.{tree_rows}
use Rattle.lawful.proofs.view_laws.tree_holds.Goals as goal

pub returns-then-views_hold : goal.returns-then-views_hold
returns-then-views_hold c = both_later _ _ _ _ (tree_rows _ _ _ _) c.views_hold.ensures _ c.if-views_hold.true c.runs_hold.ensures

pub returns : goal.returns
returns c = both_not _ _ _ _ (tree_rows _ _ _ _) c.views_hold.ensures c.if-views_hold.false
