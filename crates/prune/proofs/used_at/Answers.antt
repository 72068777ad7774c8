use Rattle.prune.proofs.Used.{one_counted, none_counted}
use Rattle.prune.proofs.used_at.Goals as goal

pub returns-then-names : goal.returns-then-names
returns-then-names c = rw (← c.id_at.ensures) (one_counted _ _ _ c.names.ensures c.if-names.true)

pub returns : goal.returns
returns c = rw (← c.id_at.ensures) (none_counted _ _ _ c.names.ensures c.if-names.false)
