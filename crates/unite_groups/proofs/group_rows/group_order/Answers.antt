use Rattle.unite_groups.proofs.Orders.{row_less, row_more, row_by_ids}
use Rattle.unite_groups.proofs.group_rows.group_order.Goals as goal

pub returns-in-Less : goal.returns-in-Less
returns-in-Less c = row_less c.args.groups.now c.args.work.now c.args.pool.now c.args.i c.args.g _ c.group_at-h.ensures _ _ c.part.ensures c.part-2.ensures _ c.compare.ensures c.in-Less.is

pub returns-in-Equal : goal.returns-in-Equal
returns-in-Equal c = row_by_ids c.args.groups.now c.args.work.now c.args.pool.now c.args.i c.args.g _ c.group_at-h.ensures _ _ c.part.ensures c.part-2.ensures _ c.compare.ensures _ c.in-Equal.is c.list_order.ensures

pub returns-in-Greater : goal.returns-in-Greater
returns-in-Greater c = row_more c.args.groups.now c.args.work.now c.args.pool.now c.args.i c.args.g _ c.group_at-h.ensures _ _ c.part.ensures c.part-2.ensures _ c.compare.ensures c.in-Greater.is
