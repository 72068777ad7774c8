use Prim.Native.Nat.{ℕ}
use mathlib.Core.Path.{◌≡◌}
use mathlib.Core.Bool.{not}
use lib.ListN.{length}
use Rattle.segments.proofs.Fronts.{Led}
use Rattle.unite_ranges.specs.Arranged.{some_overlap}
use Rattle.unite_sources.specs.Rows.{begins, places_in}
use Rattle.unite_named.specs.Named.{shares_in, overlap_at, tree_tables}
use Rattle.unite_named.specs.Steps.{prefix_in}
use Rattle.unite_named.proofs.first_overlap.Given as goal

abbrev pub invariant-loop-k : goal.invariant-loop-k
invariant-loop-k l = Led (overlap_at (tree_tables l.segments l.views l.runs l.pool) l.sources (begins l.order l.n) (places_in l.prefixes l.pool l.np)) (λ (i : ℕ). not (some_overlap (shares_in (tree_tables l.segments l.views l.runs l.pool) l.sources (begins l.order l.n) (prefix_in l.prefixes l.pool i)))) l.np l.k
    × (length l.shares ≡ length l.initial.shares)
