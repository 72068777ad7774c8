use Prim.Native.Nat.{◌+◌}
use Rattle.records.specs.Row.{view_at}
use Rattle.records.specs.Decode.{view_in}
use Rattle.manifest_write.specs.Bytes.{view_bytes}
use Rattle.manifest_write.proofs.Lists.{Listed}
use Rattle.manifest_write.proofs.rows_put.add_views.Given as goal

abbrev pub invariant-loop-k : goal.invariant-loop-k
invariant-loop-k l = Listed view_bytes (λ j. view_in l.pool (view_at l.views (l.w.first + j))) l.initial.out l.initial.p l.n l.k l.p l.out
