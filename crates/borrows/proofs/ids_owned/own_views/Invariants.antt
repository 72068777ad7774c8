use Prim.Native.Nat.{◌+◌, ◌-◌}
use mathlib.Core.List.{[], ◌∷◌}
use Rattle.records.specs.Row.{view_at}
use Rattle.records.specs.Decode.{view_in, borrows_in}
use Rattle.borrows.specs.Owned.{owned_by}
use Rattle.borrows.proofs.Putting.{Took}
use Rattle.borrows.proofs.ids_owned.own_views.Given as goal

abbrev pub invariant-loop-k : goal.invariant-loop-k
invariant-loop-k l = Took (λ v. owned_by (borrows_in l.borrows l.ids [] l.b) (v ∷ [])) (λ i. view_in [] (view_at l.views (l.first + i))) l.n l.initial.out l.initial.to l.out l.to l.k
