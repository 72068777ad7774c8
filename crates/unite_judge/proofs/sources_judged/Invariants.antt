use Rattle.records.specs.Decode.{lent_of}
use Rattle.unite_judge.proofs.Judging.{Kept}
use Rattle.unite_judge.proofs.sources_judged.Given as goal

abbrev pub invariant-loop-i : goal.invariant-loop-i
invariant-loop-i l = Kept l.lim (lent_of l.tables) l.sources l.n l.i
