use Rattle.unite_ranges.specs.Rows.{ranged_at}
use Rattle.unite_ranges.proofs.Placed.{Apart}
use Rattle.unite_ranges.proofs.ranges_overlap.Given as goal

abbrev pub invariant-loop-k : goal.invariant-loop-k
invariant-loop-k l = Apart (ranged_at l.pool l.rows) l.n l.k
