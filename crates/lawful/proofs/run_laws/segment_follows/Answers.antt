use Rattle.records.specs.Decode.{tree_in}
use Rattle.lawful.proofs.run_laws.segment_follows.Goals as goal

pub returns : goal.returns
unfolding tree_in
returns c = rw (← c.segment_at-s.ensures) c.runs_follow.ensures
