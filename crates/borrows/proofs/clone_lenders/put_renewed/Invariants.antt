use Prim.Native.Nat.{◌+◌, ◌-◌}
use Rattle.records.specs.Row.{borrow_at}
use Rattle.records.specs.Decode.{borrow_in}
use Rattle.records.specs.Fill.{borrow_fill}
use Rattle.records.proofs.Columns.{borrow_rows, borrow_id_rows, borrow_pool}
use Rattle.emit.proofs.Laid.{Walk, Grown}
use Rattle.borrows.specs.Clone.{uuids_of, fresh_at, renewed}
use Rattle.borrows.proofs.clone_lenders.put_renewed.Given as goal

abbrev pub invariant-loop-k : goal.invariant-loop-k
invariant-loop-k l = Walk borrow_fill (λ i. renewed (borrow_in l.ids l.pool (borrow_at l.borrows (l.first + i))) (fresh_at (uuids_of l.fresh) i)) l.n l.initial.to l.to l.k
    × Grown borrow_rows (λ i. renewed (borrow_in l.ids l.pool (borrow_at l.borrows (l.first + i))) (fresh_at (uuids_of l.fresh) i)) l.n l.initial.to l.initial.out_borrows l.out_borrows l.k
    × Grown borrow_id_rows (λ i. renewed (borrow_in l.ids l.pool (borrow_at l.borrows (l.first + i))) (fresh_at (uuids_of l.fresh) i)) l.n l.initial.to l.initial.out_ids l.out_ids l.k
    × Grown borrow_pool (λ i. renewed (borrow_in l.ids l.pool (borrow_at l.borrows (l.first + i))) (fresh_at (uuids_of l.fresh) i)) l.n l.initial.to l.initial.out_pool l.out_pool l.k
