use Prim.Native.Nat.{◌+◌, ◌-◌}
use Rattle.merge.proofs.Putting.{Putting}
use Rattle.merge.proofs.merge_laid.put_merged.Given as goal

abbrev pub invariant-loop-i : goal.invariant-loop-i
invariant-loop-i l = Putting l.side l.segments l.runs l.views l.pool l.w l.c l.n l.m l.end l.i l.j l.initial.out_segments l.initial.out_runs l.initial.out_views l.initial.out_pool l.out_segments l.out_runs l.out_views l.out_pool l.to

abbrev pub decreases-loop-i : goal.decreases-loop-i
decreases-loop-i l = l.end - (l.i + l.j)
