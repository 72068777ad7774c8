use Prim.Native.Nat.{◌+◌}
use Rattle.records.specs.Row.{id_at}
use Rattle.manifest_write.specs.Bytes.{sst_id_bytes}
use Rattle.manifest_write.proofs.Lists.{Listed}
use Rattle.manifest_write.proofs.rows_put.add_ids.Given as goal

abbrev pub invariant-loop-k : goal.invariant-loop-k
invariant-loop-k l = Listed sst_id_bytes (λ j. id_at l.ids (l.w.first + j)) l.initial.out l.initial.p l.n l.k l.p l.out
