-- A tree's range as the code holds it: its bounds are places in the pool, but for a prefix's successor, which stands in no pool.
use Rattle.std.specs.Prelude.{ℕ, List}
use Rattle.keys.specs.Prefix.{Top, nowhere, at, after}
use Rattle.keys.specs.Range.{Edge, unbounded, included, excluded, Edges}
use Rattle.keys.specs.Pool.{part_of, edge_of}
use Rattle.project_views.specs.declared.Until.{Until}
use Rattle.project_views.specs.declared.Until.TheVariants.{Unbounded, Included, Excluded, Successor}
use Rattle.project_views.specs.declared.Reach.{Reach}

-- where the keys that begin with a prefix end: "excluded successor .. unbounded for no byte left"
abbrev pub top_edge : Top → Edge
top_edge nowhere = unbounded
top_edge (at h) = excluded h

abbrev pub until_of : List ℕ → Until → Edge
until_of pool Unbounded = unbounded
until_of pool (Included from len) = included (part_of pool from len)
until_of pool (Excluded from len) = excluded (part_of pool from len)
until_of pool (Successor from len) = top_edge (after (part_of pool from len))

abbrev pub reach_of : List ℕ → Reach → Edges
reach_of pool r = record { start = edge_of pool r.start; end = until_of pool r.end }
