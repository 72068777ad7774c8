-- The steps that the code takes.
use Rattle.std.specs.Prelude.{ℕ, zero, suc, ◌*◌, List, [], ◌∷◌}
use Rattle.records.specs.Model.{Run, Tree, Segment}
use Rattle.records.specs.Row.{at, tree_at}
use Rattle.records.specs.Decode.{tree_in}

-- a run under another id
abbrev pub renumbered : ℕ → Run → Run
renumbered id r = record { id = id; views = r.views }

-- the tree that row i names
abbrev pub tree_of : List ℕ → List ℕ → List ℕ → List ℕ → List ℕ → ℕ → Tree
tree_of t rows runs views pool i = tree_in runs views pool (tree_at t (at rows (i * 7)))

-- ---- for the theorems about numbering

-- n - 1, .., 0
abbrev pub down_from : ℕ → List ℕ
down_from zero = []
down_from (suc n) = n ∷ down_from n

abbrev pub run_id : Run → ℕ
run_id r = r.id

abbrev pub segment_runs : Segment → List Run
segment_runs s = s.tree.runs
