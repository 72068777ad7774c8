use Prim.Native.Nat.{◌-◌}
use mathlib.Core.Bool.{not}
use mathlib.Core.List.{[]}
use Rattle.records.specs.Decode.{borrows_in}
use Rattle.lawful.proofs.Loops.{Passed}
use Rattle.borrows.specs.Clone.{refuses15}
use Rattle.borrows.proofs.Renewing.{final_there}
use Rattle.borrows.proofs.clone_lenders.lacks_final.Given as goal

abbrev pub invariant-loop-k : goal.invariant-loop-k
invariant-loop-k l = Passed (not (refuses15 (borrows_in l.borrows [] [] l.w))) (final_there l.borrows l.w) l.n l.k
