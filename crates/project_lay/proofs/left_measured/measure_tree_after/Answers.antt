use Rattle.project_lay.proofs.Adds.{tree_dropped, tree_shown_lem, tree_passed}
use Rattle.project_lay.proofs.left_measured.measure_tree_after.Goals as goal

pub returns-in-Drop : goal.returns-in-Drop
returns-in-Drop c = tree_dropped _ _ _ _ _ c.requires.fill_value c.in-Drop.is

pub returns-in-Project : goal.returns-in-Project
returns-in-Project c = tree_shown_lem _ _ _ _ _ _ _ c.in-Project.is c.measure_tree_shown.ensures

pub returns-in-PassThrough : goal.returns-in-PassThrough
returns-in-PassThrough c = tree_passed _ _ _ _ _ _ c.in-PassThrough.is c.measure_passed.ensures
