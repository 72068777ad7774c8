use Rattle.unite_groups.proofs.GroupRows.{group_made}
use Rattle.unite_groups.proofs.group_rows.group_at.Goals as goal

pub returns : goal.returns
returns c = group_made _ _ _ _ _ _ c.ix.ensures c.ix-2.ensures c.ix-3.ensures c.ix-4.ensures
