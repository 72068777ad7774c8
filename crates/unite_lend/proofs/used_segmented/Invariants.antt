use Rattle.unite_lend.specs.Used.{segmented_at}
use Rattle.unite_lend.proofs.Below.{Clear}
use Rattle.unite_lend.proofs.used_segmented.Given as goal

abbrev pub invariant-loop-i : goal.invariant-loop-i
invariant-loop-i l = Clear (segmented_at l.segments l.sources l.order) l.n l.i
