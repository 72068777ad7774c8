use Prim.Native.Nat.{◌+◌, ◌-◌}
use Rattle.records.specs.Row.{run_at}
use Rattle.records.specs.Decode.{run_in}
use Rattle.records.specs.Fill.{run_fill}
use Rattle.records.proofs.Columns.{run_rows, run_views, run_pool}
use Rattle.emit.proofs.Laid.{Walk, Grown}
use Rattle.unite_trees.specs.Steps.{renumbered}
use Rattle.unite_trees.proofs.trees_laid.put_numbered.Given as goal

abbrev pub invariant-loop-k : goal.invariant-loop-k
invariant-loop-k l = Walk run_fill (λ i. renumbered (l.left - i - 1) (run_in l.views l.pool (run_at l.runs (l.w.first + i)))) l.n l.initial.to l.to l.k × Grown run_rows (λ i. renumbered (l.left - i - 1) (run_in l.views l.pool (run_at l.runs (l.w.first + i)))) l.n l.initial.to l.initial.out_runs l.out_runs l.k × Grown run_views (λ i. renumbered (l.left - i - 1) (run_in l.views l.pool (run_at l.runs (l.w.first + i)))) l.n l.initial.to l.initial.out_views l.out_views l.k × Grown run_pool (λ i. renumbered (l.left - i - 1) (run_in l.views l.pool (run_at l.runs (l.w.first + i)))) l.n l.initial.to l.initial.out_pool l.out_pool l.k
