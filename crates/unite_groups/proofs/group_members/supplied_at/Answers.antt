use Rattle.unite_groups.proofs.Checkpoints.{supply_less, supply_same, supply_more}
use Rattle.unite_groups.proofs.group_members.supplied_at.Goals as goal

pub returns-in-Less : goal.returns-in-Less
returns-in-Less c = supply_less c.args.supplies.now c.args.pool.now c.args.i c.args.path c.args.before _ _ c.ix-at.ensures c.ix-len.ensures _ _ c.part.ensures c.part-2.ensures _ c.compare.ensures c.in-Less.is

pub returns-in-Equal : goal.returns-in-Equal
returns-in-Equal c = supply_same c.args.supplies.now c.args.pool.now c.args.i c.args.path c.args.before _ _ c.ix-at.ensures c.ix-len.ensures _ _ c.part.ensures c.part-2.ensures _ c.compare.ensures c.in-Equal.is

pub returns-in-Greater : goal.returns-in-Greater
returns-in-Greater c = supply_more c.args.supplies.now c.args.pool.now c.args.i c.args.path c.args.before _ _ c.ix-at.ensures c.ix-len.ensures _ _ c.part.ensures c.part-2.ensures _ c.compare.ensures c.in-Greater.is
