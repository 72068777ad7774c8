use Prim.Native.Nat.{◌+◌, ◌-◌}
use Rattle.merge.proofs.Measuring.{Measuring}
use Rattle.merge.proofs.merge_laid.measure_merged.Given as goal

abbrev pub invariant-loop-i : goal.invariant-loop-i
invariant-loop-i l = Measuring l.side l.lim l.segments l.runs l.views l.pool l.w l.c l.n l.m l.end l.i l.j l.to

abbrev pub decreases-loop-i : goal.decreases-loop-i
decreases-loop-i l = l.end - (l.i + l.j)
