use Rattle.records.specs.Fill.{borrow_fill}
use Rattle.records.proofs.Columns.{borrow_rows, borrow_id_rows, borrow_pool}
use Rattle.emit.proofs.Laid.{Walk, Grown}
use Rattle.borrows.specs.Clone.{uuids_of}
use Rattle.unite_groups.specs.Rows.{member_at}
use Rattle.unite_groups.specs.Steps.{lent_as}
use Rattle.unite_groups.proofs.group_borrows_laid.put_groups.Given as goal

abbrev pub invariant-loop-k : goal.invariant-loop-k
invariant-loop-k l = Walk borrow_fill (λ i. lent_as (uuids_of l.fresh) i (member_at l.groups l.work l.pool i)) l.n l.initial.to l.to l.k
    × Grown borrow_rows (λ i. lent_as (uuids_of l.fresh) i (member_at l.groups l.work l.pool i)) l.n l.initial.to l.initial.out_borrows l.out_borrows l.k
    × Grown borrow_id_rows (λ i. lent_as (uuids_of l.fresh) i (member_at l.groups l.work l.pool i)) l.n l.initial.to l.initial.out_ids l.out_ids l.k
    × Grown borrow_pool (λ i. lent_as (uuids_of l.fresh) i (member_at l.groups l.work l.pool i)) l.n l.initial.to l.initial.out_pool l.out_pool l.k
