use Rattle.project_lay.proofs.Adds.{name_none, name_added}
use Rattle.project_lay.proofs.left_measured.measure_name.Goals as goal

pub returns-in-None : goal.returns-in-None
returns-in-None c = name_none _ _ _ _ c.requires c.in-None.is

pub returns-in-Some : goal.returns-in-Some
returns-in-Some c = name_added _ _ _ _ _ _ _ c.in-Some.is c.part-long.ensures c.add.ensures
