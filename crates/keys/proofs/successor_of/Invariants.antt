use Rattle.keys.proofs.Grows.{Dropped}
use Rattle.keys.proofs.successor_of.Given as goal

abbrev pub invariant-loop-i : goal.invariant-loop-i
invariant-loop-i l = Dropped l.p l.i
