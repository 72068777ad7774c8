use Rattle.unite_lend.proofs.Supplies.{Put}
use Rattle.unite_lend.proofs.put_supplies.Given as goal

abbrev pub invariant-loop-i : goal.invariant-loop-i
invariant-loop-i l = Put l.sources l.order l.n l.initial.supplies l.supplies l.i
