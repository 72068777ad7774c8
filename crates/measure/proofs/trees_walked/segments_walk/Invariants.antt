use Prim.Native.Nat.{◌+◌, ◌/◌}
use lib.ListN.{length}
use Rattle.measure.specs.Walk.{segment_walk}
use Rattle.measure.proofs.Walks.{Walked}
use Rattle.measure.proofs.trees_walked.segments_walk.Given as goal

abbrev pub invariant-loop-k : goal.invariant-loop-k
invariant-loop-k l = Walked (λ i. segment_walk l.lim l.views l.runs l.segments l.n (l.w.first + i)) l.w (length l.segments / 12) l.initial.d l.d l.k
