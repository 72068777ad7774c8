-- Bounds as the code holds them: "offset and length into a lent pool".
use Rattle.std.specs.Prelude.{ℕ, ◌+◌, List, [], Bool, true, leb, length, take, drop}
use Rattle.keys.specs.declared.Bound.{Bound}
use Rattle.keys.specs.declared.Bound.TheVariants.{Unbounded, Included, Excluded}
use Rattle.keys.specs.declared.Range.{Range}
use Rattle.keys.specs.Pick.{pick}
use Rattle.keys.specs.Key.{is_less}
use Rattle.keys.specs.Range.{Edge, unbounded, included, excluded, Edges}
use Rattle.keys.specs.Meet.{start_order, end_order}

-- The `len` bytes of the pool from `at` on. A place outside its pool is never read: it names no byte.
unfoldable pub part_of : List ℕ → ℕ → ℕ → List ℕ
part_of pool at len = pick (leb (at + len) (length pool)) (take len (drop at pool)) []

-- the bound that the code's names
abbrev pub edge_of : List ℕ → Bound → Edge
edge_of pool Unbounded = unbounded
edge_of pool (Included at len) = included (part_of pool at len)
edge_of pool (Excluded at len) = excluded (part_of pool at len)

abbrev pub edges_of : List ℕ → Range → Edges
edges_of pool r = record { start = edge_of pool r.start; end = edge_of pool r.end }

-- a bound's place lies within a pool of n bytes
abbrev pub inside_of : ℕ → Bound → Bool
inside_of n Unbounded = true
inside_of n (Included at len) = leb (at + len) n
inside_of n (Excluded at len) = leb (at + len) n

-- "An intersection takes the later start and the earlier end": which bounds those are, of equal ones the first
abbrev pub later_in : List ℕ → Bound → Bound → Bound
later_in pool s t = pick (is_less (start_order (edge_of pool s) (edge_of pool t))) t s

abbrev pub earlier_in : List ℕ → Bound → Bound → Bound
earlier_in pool s t = pick (is_less (end_order (edge_of pool t) (edge_of pool s))) t s

abbrev pub meet_in : List ℕ → Range → Range → Range
meet_in pool a b = record { start = later_in pool a.start b.start; end = earlier_in pool a.end b.end }
