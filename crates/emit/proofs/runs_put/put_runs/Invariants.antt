use Prim.Native.Nat.{◌+◌}
use Rattle.records.specs.Row.{run_at}
use Rattle.records.specs.Decode.{run_in}
use Rattle.records.specs.Fill.{run_fill}
use Rattle.emit.proofs.Laid.{Walk, Grown}
use Rattle.records.proofs.Columns.{run_rows, run_views, run_pool}
use Rattle.emit.proofs.runs_put.put_runs.Given as goal

abbrev pub invariant-loop-k : goal.invariant-loop-k
invariant-loop-k l = Walk run_fill (λ i. run_in l.views l.pool (run_at l.runs (l.first + i))) l.n l.initial.to l.to l.k
    × Grown run_rows (λ i. run_in l.views l.pool (run_at l.runs (l.first + i))) l.n l.initial.to l.initial.out_runs l.out_runs l.k
    × Grown run_views (λ i. run_in l.views l.pool (run_at l.runs (l.first + i))) l.n l.initial.to l.initial.out_views l.out_views l.k
    × Grown run_pool (λ i. run_in l.views l.pool (run_at l.runs (l.first + i))) l.n l.initial.to l.initial.out_pool l.out_pool l.k
