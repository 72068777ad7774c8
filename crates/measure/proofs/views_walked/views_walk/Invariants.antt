use Prim.Native.Nat.{◌+◌, ◌/◌}
use lib.ListN.{length}
use Rattle.measure.specs.Walk.{view_walk}
use Rattle.measure.proofs.Walks.{Walked}
use Rattle.measure.proofs.views_walked.views_walk.Given as goal

abbrev pub invariant-loop-k : goal.invariant-loop-k
invariant-loop-k l = Walked (λ i. view_walk l.lim l.views l.n (l.w.first + i)) l.w (length l.views / 16) l.initial.d l.d l.k
