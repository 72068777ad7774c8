use Prim.Native.Nat.{◌+◌}
use Rattle.lawful.specs.Steps.{prefix_at}
use Rattle.keys.specs.Key.{less_of}
use Rattle.segments.specs.Prefixes.{prefixes_in}
use Rattle.segments.specs.Place.{place_of}
use Rattle.segments.proofs.Fronts.{Led}
use Rattle.segments.proofs.find_place.Given as goal

abbrev pub invariant-loop-k : goal.invariant-loop-k
invariant-loop-k l = Led (place_of (prefixes_in l.segments l.pool l.w) l.prefix) (λ i. less_of (prefix_at l.segments l.pool (l.w.first + i)) l.prefix) l.n l.k
