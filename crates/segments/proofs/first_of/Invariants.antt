use Prim.Native.Nat.{◌+◌}
use Rattle.lawful.specs.Steps.{prefix_at}
use Rattle.keys.specs.Pool.{edge_of}
use Rattle.segments.specs.Prefixes.{prefixes_in}
use Rattle.segments.specs.Select.{before, first_of}
use Rattle.segments.proofs.Fronts.{Led}
use Rattle.segments.proofs.first_of.Given as goal

abbrev pub invariant-loop-k : goal.invariant-loop-k
invariant-loop-k l = Led (first_of (edge_of l.args l.s) (prefixes_in l.segments l.pool l.w)) (λ i. before (edge_of l.args l.s) (prefix_at l.segments l.pool (l.w.first + i))) l.n l.k
