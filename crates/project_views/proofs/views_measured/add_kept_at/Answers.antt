use Rattle.project_views.proofs.views_measured.add_kept_at.Goals as goal

pub returns : goal.returns
returns c = rw (← c.kept_at-kept.ensures) c.add_kept.ensures
