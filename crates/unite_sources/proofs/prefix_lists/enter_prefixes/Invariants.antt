use Prim.Native.Nat.{◌+◌, ◌-◌}
use lib.ListN.{length}
use Rattle.lawful.specs.Steps.{prefix_at}
use Rattle.unite_sources.specs.Rows.{places_in}
use Rattle.unite_sources.proofs.Gathering.{Entering}
use Rattle.unite_sources.proofs.prefix_lists.enter_prefixes.Given as goal

abbrev pub invariant-loop-k : goal.invariant-loop-k
invariant-loop-k l = Entering (λ i. prefix_at l.segments l.pool (l.first + i)) l.n l.m (length l.initial.list) (places_in l.initial.list l.pool l.n) (places_in l.list l.pool l.count) (length l.list) l.count l.k
