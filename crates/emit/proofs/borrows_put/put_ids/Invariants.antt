use Prim.Native.Nat.{◌+◌}
use Rattle.records.specs.Row.{id_at}
use Rattle.emit.proofs.Laid.{Walk, Grown}
use Rattle.records.proofs.Columns.{id_fill, id_rows}
use Rattle.emit.proofs.borrows_put.put_ids.Given as goal

abbrev pub invariant-loop-k : goal.invariant-loop-k
invariant-loop-k l = Walk id_fill (λ i. id_at l.ids (l.first + i)) l.n l.initial.to l.to l.k × Grown id_rows (λ i. id_at l.ids (l.first + i)) l.n l.initial.to l.initial.out_ids l.out_ids l.k
