use Rattle.manifest_rows.proofs.Manifests.{second_filled}
use Rattle.manifest_rows.proofs.fill_second.Goals as goal

pub returns : goal.returns
returns c = second_filled _ _ _ _ _ _ _ _ _ _ _ _ _ _ _ _ c.in_ok-name.ensures c.in_ok-x.ensures c.in_ok-p2.ensures c.in_ok-y.ensures c.in_ok-e.ensures
