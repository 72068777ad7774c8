-- Trees as the code finds them: at word places of a table, the places being the first of seven words a row of another.
use Rattle.std.specs.Prelude.{ℕ, ◌*◌, List}
use Rattle.tables.specs.Layout.{up_to}
use Rattle.records.specs.Model.{Tree}
use Rattle.records.specs.Row.{at, tree_at}
use Rattle.records.specs.Decode.{tree_in}

unfoldable pub trees_in : List ℕ → List ℕ → ℕ → List ℕ → List ℕ → List ℕ → List Tree
trees_in t rows n runs views pool = up_to (λ i. tree_in runs views pool (tree_at t (at rows (i * 7)))) n
