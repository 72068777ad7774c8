use Rattle.project_lay.proofs.Adds.{passed_added}
use Rattle.project_lay.proofs.left_measured.measure_passed.Goals as goal

pub returns : goal.returns
returns c = passed_added _ _ _ _ _ _ _ c.requires.t_value c.requires.fill_value c.segment_row.ensures
