-- Tree merge: the writer owns L0, the compactor owns runs and watermarks.
use Rattle.std.specs.Prelude.{Bool, true, false, ◌&&◌, ◌||◌, List, [], ◌∷◌}
use Rattle.keys.specs.Pick.{pick}
use Rattle.ids.specs.Id.{marks_view_of, marks_sst_of}
use Rattle.records.specs.Model.{View, Run, Tree}

-- "whose view id or SST id equals the compactor's respective watermark"
abbrev pub absorbed : Tree → View → Bool
absorbed c v = marks_view_of c.view_mark v.id || marks_sst_of c.sst_mark v.sst

-- those before the first that passes; "all of it if none matches"
abbrev pub until : {A : Type 0} → (A → Bool) → List A → List A
until f [] = []
until f (x ∷ xs) = pick (f x) [] (x ∷ until f xs)

-- "the writer's L0 up to, not including, the first view whose view id or SST id equals the compactor's respective watermark; all
-- of it if none matches. Runs and watermarks are the compactor's."
unfoldable pub tree_merge : Tree → Tree → Tree
tree_merge w c = record { view_mark = c.view_mark; sst_mark = c.sst_mark; l0 = until (absorbed c) w.l0; runs = c.runs }

abbrev pub no_views : List View → Bool
no_views [] = true
no_views (v ∷ vs) = false

abbrev pub no_runs : List Run → Bool
no_runs [] = true
no_runs (r ∷ rs) = false

-- "Empty means no L0 and no run, watermarks ignored."
unfoldable pub is_empty : Tree → Bool
is_empty t = no_views t.l0 && no_runs t.runs
