use Prim.Native.Nat.{◌+◌}
use Rattle.project_views.proofs.Summed.{Summed}
use Rattle.records.specs.Row.{view_at}
use Rattle.records.specs.Decode.{view_in}
use Rattle.records.specs.Fill.{view_fill}
use Rattle.unite_trees.proofs.trees_measured.add_views.Given as goal

abbrev pub invariant-loop-k : goal.invariant-loop-k
invariant-loop-k l = Summed l.most view_fill (λ i. view_in l.pool (view_at l.views (l.w.first + i))) l.n l.initial.d l.d l.k
