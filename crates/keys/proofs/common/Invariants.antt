use Rattle.keys.proofs.Shared.{Walked}
use Rattle.keys.proofs.common.Given as goal

abbrev pub invariant-loop-i : goal.invariant-loop-i
invariant-loop-i l = Walked l.a l.b l.i
