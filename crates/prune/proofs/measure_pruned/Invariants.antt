use Prim.Native.Nat.{◌-◌}
use Rattle.ids.specs.Names.{ids_of}
use Rattle.records.specs.Fill.{sum, borrow_fill}
use Rattle.project_views.proofs.Summed.{Summed}
use Rattle.prune.proofs.Kept.{piece_in}
use Rattle.prune.proofs.measure_pruned.Given as goal

abbrev pub invariant-loop-k : goal.invariant-loop-k
invariant-loop-k l = Summed l.most (sum borrow_fill) (piece_in (ids_of l.used) l.borrows l.ids l.pool l.w.first) l.n l.initial.d l.d l.k
