use Rattle.encoded_union.proofs.Gather.{Fine}
use Rattle.encoded_union.proofs.some_bad.Given as goal

abbrev pub invariant-loop-k : goal.invariant-loop-k
invariant-loop-k l = Fine l.most l.n l.ends l.count l.k
