use Rattle.lawful.proofs.Arms.{both_later, both_not}
use Rattle.lawful.proofs.Rules.{near_rows}
use Rattle.lawful.proofs.prefix_laws.stand_apart.Goals as goal

pub returns-then-ascends : goal.returns-then-ascends
returns-then-ascends c = both_later _ _ _ _ (near_rows _ _ _ c.type_inv.pool) c.ascends.ensures _ c.if-ascends.true c.parts.ensures

pub returns : goal.returns
returns c = both_not _ _ _ _ (near_rows _ _ _ c.type_inv.pool) c.ascends.ensures c.if-ascends.false
