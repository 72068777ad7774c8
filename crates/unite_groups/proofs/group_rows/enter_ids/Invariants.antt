use Prim.Native.Nat.{◌+◌}
use Rattle.records.specs.Row.{id_at}
use Rattle.unite_groups.proofs.IdSets.{Setting}
use Rattle.unite_groups.proofs.group_rows.enter_ids.Given as goal

abbrev pub invariant-loop-k : goal.invariant-loop-k
invariant-loop-k l = Setting l.initial.work l.first (λ i. id_at l.ids (l.from.first + i)) l.n l.work l.count l.k
