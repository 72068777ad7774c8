use Rattle.unite_groups.proofs.Checkpoints.{better_none, better_new, better_old, better_lesser}
use Rattle.unite_groups.proofs.group_members.better_of.Goals as goal

pub returns-then-same_uuid : goal.returns-then-same_uuid
returns-then-same_uuid c = better_new c.args.s c.args.old c.args.new _ c.in-Some.is _ c.same_uuid.ensures c.if-same_uuid.true

pub returns-then-same_uuid-2 : goal.returns-then-same_uuid-2
returns-then-same_uuid-2 c = better_old c.args.s c.args.old c.args.new _ c.in-Some.is _ c.same_uuid.ensures c.if-same_uuid.false _ c.same_uuid-in-Some.ensures c.if-same_uuid-2.true

pub returns-in-None : goal.returns-in-None
returns-in-None c = better_none c.args.s c.args.old c.args.new _ c.in-None.is c.lesser_of.ensures

pub returns-else-same_uuid-2 : goal.returns-else-same_uuid-2
returns-else-same_uuid-2 c = better_lesser c.args.s c.args.old c.args.new _ c.in-Some.is _ c.same_uuid.ensures c.if-same_uuid.false _ c.same_uuid-in-Some.ensures _ c.if-same_uuid-2.false c.lesser_of-in-Some.ensures
