use Rattle.lawful.proofs.Arms.{both_later, both_not}
use Rattle.lawful.proofs.Rules.{l5_rows}
use Rattle.lawful.proofs.run_laws.l5.Goals as goal

pub returns-then-runs_follow : goal.returns-then-runs_follow
returns-then-runs_follow c = both_later _ _ _ _ (l5_rows _ _) c.runs_follow.ensures _ c.if-runs_follow.true c.segments_follow.ensures

pub returns : goal.returns
returns c = both_not _ _ _ _ (l5_rows _ _) c.runs_follow.ensures c.if-runs_follow.false
