use Rattle.unite_judge.proofs.Judging.{Short}
use Rattle.unite_judge.proofs.some_path_over.Given as goal

abbrev pub invariant-loop-i : goal.invariant-loop-i
invariant-loop-i l = Short l.most l.n l.t l.k l.i
