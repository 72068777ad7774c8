use Rattle.lawful.proofs.view_laws.run_holds.Goals as goal

pub returns : goal.returns
returns c = rw (← c.run_at-row.ensures) c.views_hold.ensures
