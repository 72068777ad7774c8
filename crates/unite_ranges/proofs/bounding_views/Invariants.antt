use Prim.Native.Nat.{◌+◌}
use Rattle.records.specs.Row.{view_at}
use Rattle.records.specs.Decode.{view_in}
use Rattle.unite_ranges.specs.Rows.{bounded_in}
use Rattle.unite_ranges.proofs.Wide.{Wide, one}
use Rattle.unite_ranges.proofs.bounding_views.Given as goal

abbrev pub invariant-loop-k : goal.invariant-loop-k
invariant-loop-k l = Wide one (λ i. view_in l.pool (view_at l.views (l.first + i))) l.n (bounded_in l.pool l.initial.q) (bounded_in l.pool l.q) l.k
