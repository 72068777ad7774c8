use Rattle.unite_groups.proofs.Lent.{group_filled}
use Rattle.unite_groups.proofs.group_borrows_laid.group_fill.Goals as goal

pub returns : goal.returns
returns c = group_filled c.args.groups.now c.args.work.now c.args.pool.now c.args.i _ c.group_at-h.ensures _ c.part-path.ensures _ c.held.ensures
