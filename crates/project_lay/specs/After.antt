-- What becomes of each tree and segment.
use Rattle.std.specs.Prelude.{ℕ, suc, List, [], ◌∷◌, ◌++◌}
use Rattle.keys.specs.Pick.{pick}
use Rattle.records.specs.Model.{Tree, Segment}
use Rattle.records.specs.New.{new_tree}
use Rattle.merge.specs.Tree.{is_empty}
use Rattle.project_views.specs.Shown.{tree_shown}
use Rattle.project_ranges.specs.Config.{Config}
use Rattle.project_ranges.specs.Action.{Action, drop, project, pass, action_of}

-- "Dropping the unsegmented tree clears its watermarks; projecting keeps them."
abbrev pub tree_after : Action → Tree → Tree
tree_after drop t = new_tree
tree_after (project r) t = tree_shown r t
tree_after pass t = t

-- "A projected named segment with no views and no runs goes"
abbrev pub kept_segment : List ℕ → Tree → List Segment
kept_segment p t = pick (is_empty t) [] (record { prefix = p; tree = t } ∷ [])

-- "one that only passed the filter stays, empty or not"
abbrev pub segment_after : Action → Segment → List Segment
segment_after drop s = []
segment_after (project r) s = kept_segment s.prefix (tree_shown r s.tree)
segment_after pass s = s ∷ []

-- the segments at the places from `place` on
unfoldable pub segments_after : Config → ℕ → List Segment → List Segment
segments_after c place [] = []
segments_after c place (s ∷ ss) = segment_after (action_of c place s.prefix) s ++ segments_after c (suc place) ss
