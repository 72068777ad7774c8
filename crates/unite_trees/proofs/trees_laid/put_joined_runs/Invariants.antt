use Rattle.records.specs.Fill.{sum, run_fill}
use Rattle.emit.proofs.Laid.{Walk, Grown}
use Rattle.project_views.proofs.Runs.{piece_rows, piece_views, piece_pool}
use Rattle.unite_trees.specs.Steps.{tree_of}
use Rattle.unite_trees.proofs.Numbers.{numbered_at}
use Rattle.unite_trees.proofs.trees_laid.put_joined_runs.Given as goal

abbrev pub invariant-loop-k : goal.invariant-loop-k
invariant-loop-k l = Walk (sum run_fill) (numbered_at l.left (tree_of l.t l.rows l.runs l.views l.pool)) l.n l.c l.to l.k × Grown piece_rows (numbered_at l.left (tree_of l.t l.rows l.runs l.views l.pool)) l.n l.c l.initial.out_runs l.out_runs l.k × Grown piece_views (numbered_at l.left (tree_of l.t l.rows l.runs l.views l.pool)) l.n l.c l.initial.out_views l.out_views l.k × Grown piece_pool (numbered_at l.left (tree_of l.t l.rows l.runs l.views l.pool)) l.n l.c l.initial.out_pool l.out_pool l.k
