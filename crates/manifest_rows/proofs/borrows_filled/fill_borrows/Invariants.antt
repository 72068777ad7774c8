use Rattle.manifest_values.specs.Read.{borrow_at}
use Rattle.manifest_rows.specs.Stored.{BorrowStep, UnderTwo, two}
use Rattle.manifest_rows.proofs.Turns.{Turn}
use Rattle.manifest_rows.proofs.borrows_filled.fill_borrows.Given as goal

abbrev pub invariant-loop : goal.invariant-loop
invariant-loop l = Turn (BorrowStep l.s) UnderTwo (borrow_at l.s) l.at l.n (two l.initial.borrows l.initial.ids l.initial.d) l.p l.counter (two l.borrows l.ids l.d)
