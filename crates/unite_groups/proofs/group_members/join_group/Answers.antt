use Rattle.unite_groups.proofs.GroupRows.{joined_row}
use Rattle.unite_groups.proofs.group_members.join_group.Goals as goal

pub returns : goal.returns
returns c = joined_row c.args.groups.now c.args.i c.args.s c.args.u _ c.group_at-h.ensures _ c.better_of-checkpoint.ensures _ c.put_group.ensures
