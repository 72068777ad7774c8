use Rattle.unite_lend.specs.Used.{lacks_at}
use Rattle.unite_lend.proofs.Below.{Clear}
use Rattle.unite_lend.proofs.used_lack_final.Given as goal

abbrev pub invariant-loop-i : goal.invariant-loop-i
invariant-loop-i l = Clear (lacks_at l.borrows l.sources l.order) l.n l.i
