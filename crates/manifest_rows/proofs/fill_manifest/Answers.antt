use Rattle.manifest_rows.proofs.Manifests.{manifest_done}
use Rattle.manifest_rows.proofs.fill_manifest.Goals as goal

pub returns : goal.returns
returns c = manifest_done _ _ _ _ _ _ _ _ _ _ _ _ _ c.in_ok-f.ensures c.fill_second.result c.fill_second.ensures
