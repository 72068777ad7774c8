use Rattle.records.specs.Fill.{sum, view_fill}
use Rattle.emit.proofs.Laid.{Walk, Grown}
use Rattle.project_views.proofs.Shows.{piece_rows, piece_pool}
use Rattle.unite_trees.specs.Joined.{tree_l0}
use Rattle.unite_trees.specs.Steps.{tree_of}
use Rattle.unite_trees.proofs.trees_laid.put_l0.Given as goal

abbrev pub invariant-loop-k : goal.invariant-loop-k
invariant-loop-k l = Walk (sum view_fill) (λ i. tree_l0 (tree_of l.t l.rows l.runs l.views l.pool i)) l.n l.initial.to l.to l.k × Grown piece_rows (λ i. tree_l0 (tree_of l.t l.rows l.runs l.views l.pool i)) l.n l.initial.to l.initial.out_views l.out_views l.k × Grown piece_pool (λ i. tree_l0 (tree_of l.t l.rows l.runs l.views l.pool i)) l.n l.initial.to l.initial.out_pool l.out_pool l.k
