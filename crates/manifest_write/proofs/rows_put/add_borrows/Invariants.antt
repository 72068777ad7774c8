use Prim.Native.Nat.{◌+◌}
use Rattle.records.specs.Row.{borrow_at}
use Rattle.records.specs.Decode.{borrow_in}
use Rattle.manifest_write.specs.Bytes.{borrow_bytes}
use Rattle.manifest_write.proofs.Lists.{Listed}
use Rattle.manifest_write.proofs.rows_put.add_borrows.Given as goal

abbrev pub invariant-loop-k : goal.invariant-loop-k
invariant-loop-k l = Listed borrow_bytes (λ j. borrow_in l.ids l.pool (borrow_at l.borrows (l.w.first + j))) l.initial.out l.initial.p l.n l.k l.p l.out
