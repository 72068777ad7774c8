use Rattle.unite_judge.proofs.Judging.{Greatest}
use Rattle.unite_judge.proofs.greatest_seq.Given as goal

abbrev pub invariant-loop-i : goal.invariant-loop-i
invariant-loop-i l = Greatest l.t l.n l.x l.i
