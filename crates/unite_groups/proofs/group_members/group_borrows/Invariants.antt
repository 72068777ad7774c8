use Prim.Native.Nat.{◌+◌}
use Rattle.records.specs.Row.{borrow_at}
use Rattle.records.specs.Decode.{borrow_in}
use Rattle.unite_groups.specs.Rows.{supplies_in}
use Rattle.unite_groups.proofs.Grouping.{Entered}
use Rattle.unite_groups.proofs.group_members.group_borrows.Given as goal

abbrev pub invariant-loop-k : goal.invariant-loop-k
invariant-loop-k l = Entered (supplies_in l.supplies l.pool l.sources) l.pool (λ j. borrow_in l.ids l.pool (borrow_at l.borrows (l.w.first + j))) l.n l.initial.groups l.initial.work l.initial.to l.groups l.work l.to l.k
