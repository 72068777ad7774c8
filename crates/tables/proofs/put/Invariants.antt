use Rattle.tables.proofs.Copies.{Copied}
use Rattle.tables.proofs.put.Given as goal

abbrev pub invariant-loop-k : goal.invariant-loop-k
invariant-loop-k g l = Copied l.initial.out l.at l.src l.out l.k
