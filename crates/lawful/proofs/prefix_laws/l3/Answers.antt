use Rattle.lawful.proofs.Rules.{l2_l3_rows}
use Rattle.lawful.proofs.prefix_laws.l3.Goals as goal

pub returns : goal.returns
returns c = l2_l3_rows _ _ _ c.stand_apart.ensures
