use Rattle.unite_groups.proofs.Checkpoints.{lesser_less, lesser_same, lesser_more}
use Rattle.unite_groups.proofs.group_members.lesser_of.Goals as goal

pub returns-in-Less : goal.returns-in-Less
returns-in-Less c = lesser_less c.args.a c.args.b _ c.order.ensures c.in-Less.is

pub returns-in-Equal : goal.returns-in-Equal
returns-in-Equal c = lesser_same c.args.a c.args.b _ c.order.ensures c.in-Equal.is

pub returns-in-Greater : goal.returns-in-Greater
returns-in-Greater c = lesser_more c.args.a c.args.b _ c.order.ensures c.in-Greater.is
