use Rattle.tables.specs.Layout.{up_to}
use Rattle.unite_groups.specs.Steps.{spot_of, group_at, row_order}
use Rattle.unite_groups.proofs.Spots.{Spotted}
use Rattle.unite_groups.proofs.group_rows.group_spot.Given as goal

abbrev pub invariant-loop-k : goal.invariant-loop-k
invariant-loop-k l = Spotted (spot_of (row_order l.work l.pool l.g) (up_to (group_at l.groups) l.n)) (row_order l.work l.pool l.g) (group_at l.groups) l.n l.k
