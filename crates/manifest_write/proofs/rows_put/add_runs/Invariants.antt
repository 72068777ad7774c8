use Prim.Native.Nat.{◌+◌}
use Rattle.records.specs.Row.{run_at}
use Rattle.records.specs.Decode.{run_in}
use Rattle.manifest_write.specs.Bytes.{run_bytes}
use Rattle.manifest_write.proofs.Lists.{Listed}
use Rattle.manifest_write.proofs.rows_put.add_runs.Given as goal

abbrev pub invariant-loop-k : goal.invariant-loop-k
invariant-loop-k l = Listed run_bytes (λ j. run_in l.views l.pool (run_at l.runs (l.w.first + j))) l.initial.out l.initial.p l.n l.k l.p l.out
