use Prim.Native.Nat.{◌+◌, ◌-◌}
use mathlib.Core.List.{[]}
use Rattle.records.specs.Row.{run_at}
use Rattle.records.specs.Decode.{run_in, borrows_in}
use Rattle.borrows.specs.Owned.{owned_by}
use Rattle.borrows.proofs.Putting.{Took}
use Rattle.borrows.proofs.ids_owned.own_runs.Given as goal

abbrev pub invariant-loop-k : goal.invariant-loop-k
invariant-loop-k l = Took (λ r. owned_by (borrows_in l.borrows l.ids [] l.b) r.views) (λ i. run_in l.views [] (run_at l.runs (l.first + i))) l.n l.initial.out l.initial.to l.out l.to l.k
