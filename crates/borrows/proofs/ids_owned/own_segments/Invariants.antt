use Prim.Native.Nat.{◌+◌, ◌-◌}
use mathlib.Core.List.{[]}
use Rattle.records.specs.Row.{segment_at}
use Rattle.records.specs.Decode.{segment_in, borrows_in}
use Rattle.measure.specs.Within.{tree_views}
use Rattle.borrows.specs.Owned.{owned_by}
use Rattle.borrows.proofs.Putting.{Took}
use Rattle.borrows.proofs.ids_owned.own_segments.Given as goal

abbrev pub invariant-loop-k : goal.invariant-loop-k
invariant-loop-k l = Took (λ s. owned_by (borrows_in l.borrows l.ids [] l.b) (tree_views s.tree)) (λ i. segment_in l.runs l.views [] (segment_at l.segments (l.first + i))) l.n l.initial.out l.initial.to l.out l.to l.k
