use Prim.Native.Nat.{◌+◌, ◌-◌}
use Rattle.merge.proofs.Finding.{Seeking}
use Rattle.merge.proofs.merge_faults.find_only.Given as goal

abbrev pub invariant-loop-i : goal.invariant-loop-i
invariant-loop-i l = Seeking l.segments l.runs l.views l.pool l.w l.c l.n l.m l.end l.i l.j

abbrev pub decreases-loop-i : goal.decreases-loop-i
decreases-loop-i l = l.end - (l.i + l.j)
