use Prim.Native.Nat.{◌+◌, ◌/◌}
use lib.ListN.{length}
use Rattle.measure.specs.Walk.{borrow_walk}
use Rattle.measure.proofs.Walks.{Walked}
use Rattle.measure.proofs.borrows_walked.borrows_walk.Given as goal

abbrev pub invariant-loop-k : goal.invariant-loop-k
invariant-loop-k l = Walked (λ i. borrow_walk l.lim l.ids l.borrows l.n (l.w.first + i)) l.w (length l.borrows / 9) l.initial.d l.d l.k
