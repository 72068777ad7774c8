-- "sources .. with no views are set aside. The others are sorted stably by the start of their bounding effective range."
use Rattle.std.specs.Prelude.{Bool, true, false, List, [], ◌∷◌, ◌++◌}
use Rattle.records.specs.Model.{View, Tree, Segment}
use Rattle.measure.specs.Within.{all_views}
use Rattle.merge.specs.Merge.{some_of}
use Rattle.unite_ranges.specs.Bounding.{Bounding, none, spans, bounding_of}
use Rattle.unite_ranges.specs.Arranged.{Ranged, arranged, some_overlap}
use Rattle.unite_sources.specs.Source.{Source}

-- a thing with its bounding range; with no views it has none, and is set aside
abbrev pub ranged_as : {A : Type 0} → A → Bounding → List (Ranged A)
ranged_as x none = []
ranged_as x (spans r) = record { what = x; range = r } ∷ []

unfoldable pub ranged_by : {A : Type 0} → (A → List View) → List A → List (Ranged A)
ranged_by views [] = []
ranged_by views (x ∷ xs) = ranged_as x (bounding_of (views x)) ++ ranged_by views xs

abbrev pub source_views : Source → List View
source_views s = all_views s.manifest

-- the used sources as sorted
unfoldable pub in_order : List Source → List (Ranged Source)
in_order ss = arranged (ranged_by source_views ss)

-- "12 | union ranges overlap", without an extractor: "adjacent ranges disjoint"
abbrev pub refuses12 : List (Ranged Source) → Bool
refuses12 us = some_overlap us

abbrev pub no_segments : List Segment → Bool
no_segments [] = true
no_segments (s ∷ ss) = false

-- "13 | segments in a used source, no extractor"
unfoldable pub refuses13 : List Source → Bool
refuses13 us = some_of (λ s. is_segmented (no_segments s.manifest.segments)) us
  where
    is_segmented : Bool → Bool
    is_segmented true = false
    is_segmented false = true

-- the unsegmented trees, in order
unfoldable pub own_trees : List Source → List Tree
own_trees [] = []
own_trees (s ∷ ss) = s.manifest.tree ∷ own_trees ss
