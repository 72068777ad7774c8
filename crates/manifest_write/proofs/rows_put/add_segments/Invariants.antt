use Prim.Native.Nat.{◌+◌}
use Rattle.records.specs.Row.{segment_at}
use Rattle.records.specs.Decode.{segment_in}
use Rattle.manifest_write.specs.Bytes.{segment_bytes}
use Rattle.manifest_write.proofs.Lists.{Listed}
use Rattle.manifest_write.proofs.rows_put.add_segments.Given as goal

abbrev pub invariant-loop-k : goal.invariant-loop-k
invariant-loop-k l = Listed segment_bytes (λ j. segment_in l.runs l.views l.pool (segment_at l.segments (l.w.first + j))) l.initial.out l.initial.p l.n l.k l.p l.out
