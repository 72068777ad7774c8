use Prim.Native.Nat.{◌+◌}
use Rattle.records.specs.Row.{run_at}
use Rattle.records.specs.Decode.{run_in}
use Rattle.measure.specs.Within.{run_views}
use Rattle.unite_ranges.specs.Rows.{bounded_in}
use Rattle.unite_ranges.proofs.Wide.{Wide}
use Rattle.unite_ranges.proofs.bounding_runs.Given as goal

abbrev pub invariant-loop-k : goal.invariant-loop-k
invariant-loop-k l = Wide run_views (λ i. run_in l.views l.pool (run_at l.runs (l.first + i))) l.n (bounded_in l.pool l.initial.q) (bounded_in l.pool l.q) l.k
