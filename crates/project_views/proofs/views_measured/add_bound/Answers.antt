use Rattle.project_views.proofs.views_measured.add_bound.Goals as goal

pub returns : goal.returns
returns c = rw (← c.bound_len-n.ensures) c.add.ensures
