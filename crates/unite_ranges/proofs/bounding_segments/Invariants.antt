use Prim.Native.Nat.{◌+◌}
use Rattle.records.specs.Row.{segment_at}
use Rattle.records.specs.Decode.{segment_in}
use Rattle.unite_ranges.specs.Rows.{bounded_in}
use Rattle.unite_ranges.proofs.Wide.{Wide, segment_views}
use Rattle.unite_ranges.proofs.bounding_segments.Given as goal

abbrev pub invariant-loop-k : goal.invariant-loop-k
invariant-loop-k l = Wide segment_views (λ i. segment_in l.runs l.views l.pool (segment_at l.segments (l.first + i))) l.n (bounded_in l.pool l.initial.q) (bounded_in l.pool l.q) l.k
