use Rattle.project_lay.proofs.left_measured.stays.Goals as goal

pub returns-in-Project : goal.returns-in-Project
returns-in-Project c = rw c.in-Project.is c.is_left.ensures
