use Prim.Native.Nat.{◌+◌}
use Rattle.lawful.specs.Steps.{prefix_at}
use Rattle.keys.specs.Pool.{edge_of}
use Rattle.segments.specs.Prefixes.{prefixes_in}
use Rattle.segments.specs.Select.{reached, past_of}
use Rattle.segments.proofs.Fronts.{Led}
use Rattle.segments.proofs.past_of.Given as goal

abbrev pub invariant-loop-k : goal.invariant-loop-k
invariant-loop-k l = Led (past_of (edge_of l.args l.e) (prefixes_in l.segments l.pool l.w)) (λ i. reached (edge_of l.args l.e) (prefix_at l.segments l.pool (l.w.first + i))) l.n l.k
