use Rattle.lawful.proofs.view_laws.segment_holds.Goals as goal

pub returns : goal.returns
returns c = rw (← c.segment_at-s.ensures) c.tree_holds.ensures
