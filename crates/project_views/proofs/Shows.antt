-- What is left of one view and of a window's views, laid. Assumes nothing.
use Rattle.std.specs.Prelude.{None, Option, Some}
use Prim.Native.Nat.{ℕ, ◌+◌, ◌*◌, ◌/◌, ◌≤◌}
use mathlib.Core.Path.{◌≡◌, sym, ap, ◌∙◌}
use mathlib.Core.Bool.{Bool}
use mathlib.Core.List.{List, append-nil}
use native.Mathlib.Omega.{arith}
use lib.ListN.{length}
use Rattle.keys.specs.Range.{Edges}
use Rattle.tables.specs.Layout.{write, up_to, joined}
use Rattle.tables.specs.Window.{held_of}
use Rattle.tables.specs.declared.Window.{Window}
use Rattle.tables.proofs.Writes.{write_none}
use Rattle.records.specs.Model.{View}
use Rattle.records.specs.Row.{view_at}
use Rattle.records.specs.Decode.{view_in, views_in}
use Rattle.records.specs.Words.{view_words}
use Rattle.records.specs.Fill.{plus, sum, view_fill}
use Rattle.records.specs.Layout.{view_row, view_bytes, views_laid}
use Rattle.records.specs.declared.Fill.{Fill}
use Rattle.records.specs.declared.ViewRow.{ViewRow}
use Rattle.records.proofs.Sums.{plus_empty}
use Rattle.records.proofs.Laid.{Column, column, pool as bytes}
use Rattle.records.proofs.Columns.{view_rows}
use Rattle.emit.proofs.Laid.{plain}
use Rattle.emit.proofs.Columns.{views_bytes_long}
use Rattle.project_views.specs.Reach.{reach_of}
use Rattle.project_views.specs.Shown.{with_visible}
use Rattle.project_views.specs.Steps.{left_in, piece_of, views_shown}
use Rattle.project_views.specs.declared.Reach.{Reach}
use Rattle.project_views.proofs.Many.{all, many, sum_many, joined_many, column_many, pieces}

-- ---- some views laid from c on: the cursor past them, their rows and their bytes

abbrev pub LaidViews : Fill → Fill → List ℕ → List ℕ → List ℕ → List ℕ → List View → Type 0
LaidViews c q d d' e e' vs = (q ≡ plus c (sum view_fill vs)) × ((d' ≡ write d (c.views * 16) (views_laid c vs)) × (e' ≡ write e c.bytes (joined view_bytes vs)))

abbrev pub RoomViews : Fill → ℕ → ℕ → List View → Type 0
RoomViews c m n vs = ((c.views + (sum view_fill vs).views) * 16 ≤ m) × (c.bytes + (sum view_fill vs).bytes ≤ n)

-- ---- what is left of one view

module _ (pool : List ℕ) (k : Option (ViewRow × Reach)) (c : Fill) where
  pub kept_none : (d e : List ℕ) → k ≡ None → LaidViews c c d d e e (left_in pool k)
  unfolding views_laid
  kept_none d e t = rw t (sym (plus_empty c), (sym (write_none d (c.views * 16)), sym (write_none e c.bytes)))

  module _ (v : ViewRow) (seen : Reach) (t : k ≡ Some (v, seen)) where
    abbrev left : View
    left = with_visible (view_in pool v) (reach_of pool seen)

    pub kept_room : (m n : ℕ) → RoomViews c m n (left_in pool k) → ((c.views + (view_fill left).views) * 16 ≤ m) × (c.bytes + (view_fill left).bytes ≤ n)
    kept_room m n h = let g = rw t at h in (omega arith, omega arith)

    pub kept_one : (q : Fill) (d d' e e' : List ℕ) → q ≡ plus c (view_fill left) → d' ≡ write d (c.views * 16) (view_words (view_row c.bytes left)) → e' ≡ write e c.bytes (view_bytes left) → LaidViews c q d d' e e' (left_in pool k)
    unfolding views_laid
    kept_one q d d' e e' p r b =
        rw t
        (p ∙ ap (plus c) (sym (plus_empty (view_fill left))), (r ∙ ap (write d (c.views * 16)) (sym (append-nil (view_words (view_row c.bytes left)))), b ∙ ap (write e c.bytes) (sym (append-nil (view_bytes left)))))

-- ---- a loop over a window's views

abbrev pub piece_rows : Column (sum view_fill)
piece_rows = many view_rows

abbrev pub piece_pool : Column (sum view_fill)
piece_pool = plain bytes (joined view_bytes) views_bytes_long

-- the pieces of the views from `first` on
abbrev pub piece_in : List ℕ → List ℕ → Edges → Bool → ℕ → ℕ → ℕ → List View
piece_in views pool r overlap first n k = piece_of r overlap (λ i. view_in pool (view_at views (first + i))) n k

module _ (views pool : List ℕ) (w : Window) (r : Edges) (overlap : Bool) (n : ℕ) (e : n ≡ held_of w (length views / 16)) where
  abbrev shown : List View
  shown = views_shown overlap r (views_in views pool w)

  abbrev each : List (List View)
  each = up_to (piece_in views pool r overlap w.first n) n

  pub shown_all : shown ≡ all each
  unfolding views_in
  shown_all = rw (← e) (pieces r overlap (λ k. view_in pool (view_at views (w.first + k))) n)

  pub shown_fill : sum (sum view_fill) each ≡ sum view_fill shown
  shown_fill = sum_many view_fill each ∙ ap (sum view_fill) (sym shown_all)

  pub shown_past : (c q : Fill) → q ≡ plus c (sum (sum view_fill) each) → q ≡ plus c (sum view_fill shown)
  shown_past c q h = h ∙ ap (plus c) shown_fill

  pub shown_rows : (c : Fill) (d d' : List ℕ) → d' ≡ write d (c.views * 16) (column piece_rows c each) → d' ≡ write d (c.views * 16) (views_laid c shown)
  unfolding views_laid
  shown_rows c d d' h = h ∙ ap (write d (c.views * 16)) (column_many view_rows c each ∙ ap (column view_rows c) (sym shown_all))

  pub shown_bytes : (c : Fill) (d d' : List ℕ) → d' ≡ write d c.bytes (joined (joined view_bytes) each) → d' ≡ write d c.bytes (joined view_bytes shown)
  shown_bytes c d d' h = h ∙ ap (write d c.bytes) (joined_many view_bytes each ∙ ap (joined view_bytes) (sym shown_all))
