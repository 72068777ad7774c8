use Prim.Native.Nat.{◌+◌}
use Rattle.project_views.proofs.Summed.{Summed}
use Rattle.records.specs.Row.{run_at}
use Rattle.records.specs.Decode.{run_in}
use Rattle.records.specs.Fill.{run_fill}
use Rattle.unite_trees.proofs.trees_measured.add_runs.Given as goal

abbrev pub invariant-loop-k : goal.invariant-loop-k
invariant-loop-k l = Summed l.most run_fill (λ i. run_in l.views l.pool (run_at l.runs (l.w.first + i))) l.n l.initial.d l.d l.k
