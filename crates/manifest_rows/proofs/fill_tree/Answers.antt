use native.Mathlib.Omega.{arith}
use Rattle.manifest_rows.proofs.Cuts.{tree_begun}
use Rattle.manifest_rows.proofs.fill_tree.Goals as goal

pub fill_views-requires : goal.fill_views-requires
fill_views-requires c = omega (arith, (tree_begun _ _ _ _ c.in_ok-h.ensures).past, c.requires)
