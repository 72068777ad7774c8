use Prim.Native.Nat.{◌+◌, ◌/◌}
use lib.ListN.{length}
use Rattle.measure.specs.Walk.{run_walk}
use Rattle.measure.proofs.Walks.{Walked}
use Rattle.measure.proofs.trees_walked.runs_walk.Given as goal

abbrev pub invariant-loop-k : goal.invariant-loop-k
invariant-loop-k l = Walked (λ i. run_walk l.lim l.views l.runs l.n (l.w.first + i)) l.w (length l.runs / 3) l.initial.d l.d l.k
