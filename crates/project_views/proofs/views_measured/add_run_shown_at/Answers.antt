use Rattle.project_views.proofs.views_measured.add_run_shown_at.Goals as goal

pub returns : goal.returns
returns c = rw (← c.run_at.ensures) c.add_run_shown.ensures
