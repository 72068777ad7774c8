-- The steps that the code takes over the rows of a manifest. No public promise speaks of them.
use Rattle.std.specs.Prelude.{ℕ, ◌+◌, ◌/◌, Bool, true, false, not, ◌&&◌, List, ◌++◌, length}
use Rattle.ids.specs.declared.SstId.{SstId}
use Rattle.tables.specs.Layout.{up_to, joined}
use Rattle.tables.specs.Window.{held_of}
use Rattle.tables.specs.declared.Window.{Window}
use Rattle.records.specs.Model.{View, Tree, Segment}
use Rattle.records.specs.Row.{view_at, run_at, segment_at}
use Rattle.records.specs.Decode.{tree_in}
use Rattle.records.specs.Fill.{view_keys}
use Rattle.records.specs.declared.Limits.{Limits}
use Rattle.records.specs.declared.TreeRow.{TreeRow}
use Rattle.measure.specs.Tests.{all_of, all_below}
use Rattle.measure.specs.Within.{tree_views, short}
use Rattle.measure.specs.Placed.{tree_placed}
use Rattle.merge.specs.Tree.{is_empty}
use Rattle.project_views.specs.Shown.{tree_shown}
use Rattle.project_ranges.specs.Config.{Config}
use Rattle.project_ranges.specs.Action.{Action, drop, project, pass, action_of}
use Rattle.project_lay.specs.After.{tree_after, segment_after}

-- ---- segments

-- whether one stays: a dropped one does not, nor one that is projected to nothing
abbrev pub stays_by : Action → Tree → Bool
stays_by drop t = false
stays_by (project r) t = not (is_empty (tree_shown r t))
stays_by pass t = true

-- the segment that stays
abbrev pub kept_as : Action → Segment → Segment
kept_as a s = record { prefix = s.prefix; tree = tree_after a s.tree }

-- what is left of the segment at a place
abbrev pub piece_at : Config → ℕ → Segment → List Segment
piece_at c place s = segment_after (action_of c place s.prefix) s

-- the views of some segments
abbrev pub segments_views : List Segment → List View
segments_views ss = joined (λ s. tree_views s.tree) ss

-- ---- a tree's part of L1, which its row keeps: it lies within the tables, and its keys are short enough

unfoldable pub tree_kept : Limits → List ℕ → List ℕ → List ℕ → TreeRow → Bool
tree_kept lim views runs pool t =
    tree_placed (length pool) views runs t && all_of (λ v. all_of (short lim.key) (view_keys v)) (tree_views (tree_in runs views pool t))

-- the trees of a window's segments
unfoldable pub rows_kept : Limits → List ℕ → List ℕ → List ℕ → List ℕ → Window → Bool
rows_kept lim segments views runs pool w =
    all_below (λ k. tree_kept lim views runs pool (segment_at segments (w.first + k)).tree) (held_of w (length segments / 12))

-- ---- the SST ids of the views of a window, of the runs of one, and of a tree

unfoldable pub ssts_in : List ℕ → Window → List SstId
ssts_in views w = up_to (λ k. (view_at views (w.first + k)).sst) (held_of w (length views / 16))

unfoldable pub runs_ssts : List ℕ → List ℕ → Window → List SstId
runs_ssts runs views w = joined (λ xs. xs) (up_to (λ k. ssts_in views (run_at runs (w.first + k)).views) (held_of w (length runs / 3)))

abbrev pub tree_ssts : List ℕ → List ℕ → TreeRow → List SstId
tree_ssts runs views t = ssts_in views t.l0 ++ runs_ssts runs views t.compacted
