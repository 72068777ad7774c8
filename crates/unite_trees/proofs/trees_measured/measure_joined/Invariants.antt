use Rattle.records.specs.Fill.{tree_fill}
use Rattle.project_views.proofs.Summed.{Summed}
use Rattle.unite_trees.specs.Steps.{tree_of}
use Rattle.unite_trees.proofs.trees_measured.measure_joined.Given as goal

abbrev pub invariant-loop-k : goal.invariant-loop-k
invariant-loop-k l = Summed l.most tree_fill (tree_of l.t l.rows l.runs l.views l.pool) l.n l.initial.d l.d l.k
