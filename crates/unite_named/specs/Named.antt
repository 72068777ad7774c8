-- The segments of a union with an extractor, as the code finds them: sources by the words at which their rows begin, prefixes from a list
-- of places. `unite_sources` says the same over sources.
use Rattle.std.specs.Prelude.{ℕ, not, List, [], ◌∷◌, ◌++◌}
use Rattle.records.specs.Model.{Tree, Segment}
use Rattle.records.specs.Decode.{Lent}
use Rattle.measure.specs.Within.{tree_views}
use Rattle.segments.specs.Prefixes.{leading}
use Rattle.unite_ranges.specs.Arranged.{Ranged, arranged, some_overlap, whats}
use Rattle.unite_sources.specs.Used.{ranged_by}
use Rattle.unite_sources.specs.Prefixed.{segment_of}
use Rattle.unite_sources.specs.Rows.{trees_at_in}

-- "per prefix, those with views, sorted by their own start"
unfoldable pub shares_in : Lent → List ℕ → List ℕ → List ℕ → List (Ranged Tree)
shares_in l t bs p = arranged (ranged_by tree_views (trees_at_in l t p bs))

-- how many prefixes stand before the first at which shares overlap
unfoldable pub overlap_at : Lent → List ℕ → List ℕ → List (List ℕ) → ℕ
overlap_at l t bs ps = leading (λ p. not (some_overlap (shares_in l t bs p))) ps

-- one segment for each prefix that has shares
unfoldable pub segments_at : Lent → List ℕ → List ℕ → List (List ℕ) → List Segment
segments_at l t bs [] = []
segments_at l t bs (p ∷ ps) = segment_of p (whats (shares_in l t bs p)) ++ segments_at l t bs ps

-- the four tables that trees stand in
abbrev pub tree_tables : List ℕ → List ℕ → List ℕ → List ℕ → Lent
tree_tables segments views runs pool = record { segments = segments; views = views; runs = runs; borrows = []; ids = []; pool = pool }
