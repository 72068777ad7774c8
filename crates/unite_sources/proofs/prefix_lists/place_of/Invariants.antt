use Prim.Native.Nat.{◌-◌}
use Rattle.keys.specs.Key.{less_of}
use Rattle.segments.proofs.Fronts.{Led}
use Rattle.unite_sources.specs.Rows.{places_in}
use Rattle.unite_sources.proofs.Listing.{spot, row}
use Rattle.unite_sources.proofs.prefix_lists.place_of.Given as goal

abbrev pub invariant-loop-k : goal.invariant-loop-k
invariant-loop-k l = Led (spot l.p (places_in l.list l.pool l.n)) (λ i. less_of (row l.pool l.list i) l.p) l.n l.k
