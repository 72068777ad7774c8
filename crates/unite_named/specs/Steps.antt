-- The steps that the code takes. No public promise speaks of them.
use Rattle.std.specs.Prelude.{ℕ, ◌*◌, List}
use Rattle.records.specs.Model.{Tree, Segment}
use Rattle.records.specs.Row.{place_at}
use Rattle.records.specs.Decode.{Lent, bytes_in}
use Rattle.unite_ranges.specs.Arranged.{whats}
use Rattle.unite_trees.specs.Joined.{joined_tree, numbered_tree}
use Rattle.unite_sources.specs.Prefixed.{segment_of}
use Rattle.unite_sources.specs.Rows.{begins}
use Rattle.unite_named.specs.Named.{shares_in, tree_tables}

-- prefix i of a list of places
abbrev pub prefix_in : List ℕ → List ℕ → ℕ → List ℕ
prefix_in prefixes pool i = bytes_in pool (place_at prefixes (i * 2))

-- the segment of a prefix: none where it has no shares
unfoldable pub piece_at : Lent → List ℕ → List ℕ → List ℕ → List Segment
piece_at l t bs p = segment_of p (whats (shares_in l t bs p))

-- that of prefix i
abbrev pub piece_in : List ℕ → List ℕ → List ℕ → List ℕ → List ℕ → List ℕ → ℕ → List ℕ → ℕ → List Segment
piece_in segments views runs pool sources order n prefixes i =
    piece_at (tree_tables segments views runs pool) sources (begins order n) (prefix_in prefixes pool i)

-- a segment of joined trees
abbrev pub joined_as : List ℕ → List Tree → Segment
joined_as p ts = record { prefix = p; tree = joined_tree ts }

-- the same, its runs numbered
abbrev pub numbered_as : ℕ → Segment → Segment
numbered_as left s = record { prefix = s.prefix; tree = numbered_tree left s.tree }
