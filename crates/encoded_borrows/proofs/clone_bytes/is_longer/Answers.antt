use native.Mathlib.Omega.{arith}
use Rattle.encoded_borrows.proofs.Clones.{longer}
use Rattle.encoded_borrows.proofs.clone_bytes.is_longer.Goals as goal

pub returns : goal.returns
returns c = longer _ _ _ _ c.add_manifest-n.ensures c.args.out.now (omega (arith, c.well_formed.1.1.0))
