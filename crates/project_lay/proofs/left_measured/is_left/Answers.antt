use Rattle.project_lay.proofs.After.{left_is}
use Rattle.project_lay.proofs.left_measured.is_left.Goals as goal

pub returns : goal.returns
returns c = left_is _ _ _ c.measure_tree_shown.ensures c.is_none.ensures
