use Rattle.records.specs.Decode.{ids_in}
use Rattle.unite_groups.specs.Groups.{list_order}
use Rattle.unite_groups.proofs.Orders.{Even, in_window}
use Rattle.unite_groups.proofs.group_rows.list_order.Given as goal

abbrev pub invariant-loop-k : goal.invariant-loop-k
invariant-loop-k l = Even (list_order (ids_in l.work l.a) (ids_in l.work l.b)) (in_window l.work l.a) (in_window l.work l.b) l.n l.m l.k
