use Prim.Native.Nat.{◌+◌, ◌-◌}
use Rattle.ids.specs.Names.{ids_of}
use Rattle.records.specs.Row.{id_at}
use Rattle.prune.proofs.Used.{Counted}
use Rattle.prune.proofs.count_used.Given as goal

abbrev pub invariant-loop-k : goal.invariant-loop-k
invariant-loop-k l = Counted (ids_of l.used) (λ i. id_at l.ids (l.w.first + i)) l.n l.m l.k
