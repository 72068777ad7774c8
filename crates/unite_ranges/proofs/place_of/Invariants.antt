use Rattle.keys.specs.Pool.{edge_of}
use Rattle.unite_ranges.specs.Rows.{ranged_at}
use Rattle.unite_ranges.proofs.Placed.{Before}
use Rattle.unite_ranges.proofs.place_of.Given as goal

abbrev pub invariant-loop-k : goal.invariant-loop-k
invariant-loop-k l = Before (edge_of l.pool l.s) (ranged_at l.pool l.rows) l.n l.k
