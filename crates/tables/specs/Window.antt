-- A window of a table: some rows that follow each other.
use Rattle.std.specs.Prelude.{ℕ, ◌+◌, Bool, leb}
use Rattle.keys.specs.Pick.{pick}
use Rattle.tables.specs.declared.Window.{Window}

-- "a record pointing outside its lent table": whether all rows of a window are among the table's
abbrev pub lies_in : Window → ℕ → Bool
lies_in w rows = leb (w.first + w.count) rows

-- How many rows a window holds. One that points outside is never read: it holds none.
unfoldable pub held_of : Window → ℕ → ℕ
held_of w rows = pick (lies_in w rows) w.count 0
