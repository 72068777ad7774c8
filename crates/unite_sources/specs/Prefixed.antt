-- With an extractor: "only named segments are joined, per prefix, those with views, sorted by their own start and disjoint".
use Rattle.std.specs.Prelude.{ℕ, Bool, not, List, [], ◌∷◌, ◌++◌}
use Rattle.records.specs.Model.{Tree, Segment}
use Rattle.measure.specs.Within.{tree_views}
use Rattle.segments.specs.Prefixes.{prefixes, leading}
use Rattle.merge.specs.Merge.{tree_of, among, nests, some_of}
use Rattle.unite_ranges.specs.Arranged.{Ranged, arranged, some_overlap, whats}
use Rattle.unite_trees.specs.Joined.{joined_tree}
use Rattle.unite_sources.specs.Source.{Source}
use Rattle.unite_sources.specs.Used.{ranged_by}

-- some prefixes among ascending ones, each once
unfoldable pub among_all : List (List ℕ) → List (List ℕ) → List (List ℕ)
among_all done [] = done
among_all done (p ∷ ps) = among_all (among p done) ps

unfoldable pub prefixes_from : List (List ℕ) → List Source → List (List ℕ)
prefixes_from done [] = done
prefixes_from done (s ∷ ss) = prefixes_from (among_all done (prefixes s.manifest.segments)) ss

-- "the used sources' sorted distinct prefixes"
abbrev pub all_prefixes : List Source → List (List ℕ)
all_prefixes us = prefixes_from [] us

-- "14 | prefixes of used sources nest"
abbrev pub refuses14 : List (List ℕ) → Bool
refuses14 ps = nests ps

-- the tree of each source at a prefix, one that has none standing with an empty one
unfoldable pub trees_at : List ℕ → List Source → List Tree
trees_at p [] = []
trees_at p (s ∷ ss) = tree_of s.manifest.segments p ∷ trees_at p ss

-- "per prefix, those with views, sorted by their own start"
unfoldable pub shares_at : List Source → List ℕ → List (Ranged Tree)
shares_at us p = arranged (ranged_by tree_views (trees_at p us))

-- "and disjoint"; "12 | union ranges overlap | .. with an extractor 1 + first such place in the used sources' sorted distinct prefixes"
abbrev pub refuses12_at : List Source → List (List ℕ) → Bool
refuses12_at us ps = some_of (λ p. some_overlap (shares_at us p)) ps

abbrev pub place12_at : List Source → List (List ℕ) → ℕ
place12_at us ps = leading (λ p. not (some_overlap (shares_at us p))) ps

-- a prefix with no shares gives no segment
abbrev pub segment_of : List ℕ → List Tree → List Segment
segment_of p [] = []
segment_of p (t ∷ ts) = record { prefix = p; tree = joined_tree (t ∷ ts) } ∷ []

unfoldable pub segments_of : List Source → List (List ℕ) → List Segment
segments_of us [] = []
segments_of us (p ∷ ps) = segment_of p (whats (shares_at us p)) ++ segments_of us ps
