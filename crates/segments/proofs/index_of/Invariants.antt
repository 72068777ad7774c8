use Prim.Native.Nat.{◌+◌}
use mathlib.Core.Bool.{not}
use Rattle.lawful.specs.Steps.{prefix_at}
use Rattle.segments.specs.Prefixes.{prefixes_in}
use Rattle.segments.specs.Lookup.{same_of, index_of}
use Rattle.segments.proofs.Fronts.{Led}
use Rattle.segments.proofs.index_of.Given as goal

abbrev pub invariant-loop-k : goal.invariant-loop-k
invariant-loop-k l = Led (index_of (prefixes_in l.segments l.pool l.w) l.prefix) (λ i. not (same_of (prefix_at l.segments l.pool (l.w.first + i)) l.prefix)) l.n l.k
