use Rattle.borrows.proofs.Renewing.{uuid_at}
use Rattle.unite_groups.proofs.Lent.{fresh_none}
use Rattle.unite_groups.proofs.group_borrows_laid.fresh_or_zero.Goals as goal

pub returns-then-n-fresh : goal.returns-then-n-fresh
returns-then-n-fresh c = uuid_at c.args.fresh.now c.args.n c.if-n-fresh.true

pub returns : goal.returns
returns c = fresh_none c.args.fresh.now c.args.n c.if-n-fresh.false
