-- Trees joined in order, and their runs numbered anew.
use Rattle.std.specs.Prelude.{ℕ, ◌-◌, List, [], ◌∷◌, length, None}
use Rattle.tables.specs.Layout.{joined}
use Rattle.records.specs.Model.{View, Run, Tree, Segment}
use Rattle.measure.specs.Within.{tree_runs}

abbrev pub tree_l0 : Tree → List View
tree_l0 t = t.l0

-- "unsegmented trees joined in order", "Watermarks are none."
unfoldable pub joined_tree : List Tree → Tree
joined_tree ts = record { view_mark = None; sst_mark = None; l0 = joined tree_l0 ts; runs = joined tree_runs ts }

-- "Run ids descend from count-1 to 0": some runs in order, where `left` runs are left to be numbered, these the first of them
unfoldable pub numbered : ℕ → List Run → List Run
numbered left [] = []
numbered left (r ∷ rs) = record { id = left - 1; views = r.views } ∷ numbered (left - 1) rs

unfoldable pub numbered_tree : ℕ → Tree → Tree
numbered_tree left t = record { view_mark = t.view_mark; sst_mark = t.sst_mark; l0 = t.l0; runs = numbered left t.runs }

-- "through the unsegmented tree, then segments in order"
unfoldable pub numbered_segments : ℕ → List Segment → List Segment
numbered_segments left [] = []
numbered_segments left (s ∷ ss) =
    record { prefix = s.prefix; tree = numbered_tree left s.tree } ∷ numbered_segments (left - length s.tree.runs) ss
