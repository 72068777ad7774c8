use Prim.Native.Nat.{◌-◌}
use Rattle.ids.specs.Names.{ids_of}
use Rattle.project_views.proofs.Ids.{Listed}
use Rattle.prune.proofs.Used.{used_in}
use Rattle.prune.proofs.put_used.Given as goal

abbrev pub invariant-loop-k : goal.invariant-loop-k
invariant-loop-k l = Listed (used_in (ids_of l.used) l.ids l.w.first) l.n l.initial.to l.to l.initial.out_ids l.out_ids l.k
