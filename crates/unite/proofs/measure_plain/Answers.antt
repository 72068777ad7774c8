use Rattle.unite.proofs.Plain.{plain_broken, plain_added}
use Rattle.unite.proofs.measure_plain.Goals as goal

pub returns-in_err-d : goal.returns-in_err-d
returns-in_err-d c = rw c.from_residual.ensures (plain_broken _ _ _ _ _ c.no_fill-c.ensures c.measure_joined.ensures c.in_err-d.was)

pub returns : goal.returns
returns c = plain_added _ _ _ _ _ c.no_fill-c.ensures c.measure_joined.ensures _ _ c.in_ok-d.was c.measure_groups.ensures
