-- The merged tree as a row: the windows of the lent tables that hold it.
use Rattle.std.specs.Prelude.{ℕ, ◌+◌, ◌/◌, Bool, not, ◌||◌, List, length}
use Rattle.ids.specs.Id.{marks_view_of, marks_sst_of}
use Rattle.tables.specs.Layout.{up_to}
use Rattle.tables.specs.Window.{held_of}
use Rattle.tables.specs.declared.Window.{Window}
use Rattle.records.specs.Row.{view_at}
use Rattle.records.specs.declared.ViewRow.{ViewRow}
use Rattle.records.specs.declared.TreeRow.{TreeRow}
use Rattle.segments.specs.Prefixes.{leading}

-- the view rows of a window
abbrev pub view_rows : List ℕ → Window → List ViewRow
view_rows views w = up_to (λ k. view_at views (w.first + k)) (held_of w (length views / 16))

-- "whose view id or SST id equals the compactor's respective watermark"
abbrev pub absorbed_row : TreeRow → ViewRow → Bool
absorbed_row c v = marks_view_of c.view v.id || marks_sst_of c.sst v.sst

-- how many of the writer's L0 come before the first absorbed view
unfoldable pub left_of : List ℕ → Window → TreeRow → ℕ
left_of views l0 c = leading (λ v. not (absorbed_row c v)) (view_rows views l0)

-- the writer's window of L0, shortened; "Runs and watermarks are the compactor's."
unfoldable pub merged_tree : List ℕ → TreeRow → TreeRow → TreeRow
merged_tree views w c =
    record { view = c.view; sst = c.sst; l0 = record { first = w.l0.first; count = left_of views w.l0 c }; compacted = c.compacted }
