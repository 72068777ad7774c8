-- What is left of one run, of a window's runs and of a tree, laid. Assumes nothing.
use Prim.Native.Nat.{ℕ, zero, suc, ◌+◌, ◌-◌, ◌*◌, ◌/◌, ◌≤◌}
use mathlib.Core.Path.{◌≡◌, refl, sym, ap, ◌∙◌}
use mathlib.Core.List.{List, [], ◌∷◌, append-nil}
use native.Mathlib.Omega.{arith}
use lib.ListN.{length}
use Rattle.keys.specs.Range.{Edges}
use Rattle.tables.specs.Layout.{write, up_to, joined}
use Rattle.tables.specs.Window.{held_of}
use Rattle.tables.specs.declared.Window.{Window}
use Rattle.tables.proofs.Holds.{up_to_front}
use Rattle.tables.proofs.Writes.{write_none}
use Rattle.records.specs.Model.{View, Run}
use Rattle.records.specs.Row.{run_at}
use Rattle.records.specs.Decode.{run_in, runs_in}
use Rattle.records.specs.Words.{run_words}
use Rattle.records.specs.Fill.{plus, sum, runs as one_run, view_fill, run_fill}
use Rattle.records.specs.Layout.{view_bytes, views_laid, run_row, run_bytes, runs_laid, runs_views_laid}
use Rattle.records.specs.declared.Fill.{Fill}
use Rattle.records.proofs.Sums.{plus_empty}
use Rattle.records.proofs.Laid.{Column, column, pool as bytes}
use Rattle.records.proofs.Columns.{views_fill, run_bytes_long, run_rows, run_views}
use Rattle.emit.proofs.Laid.{plain, joined_long}
use Rattle.emit.proofs.Rows.{run_row_room, run_past, run_row_lem}
use Rattle.project_views.specs.Shown.{kept_run, runs_shown}
use Rattle.project_views.specs.Steps.{run_piece}
use Rattle.project_views.proofs.Many.{all, many, all_front, sum_many, joined_many, column_many}
use Rattle.project_views.proofs.Shows.{LaidViews, RoomViews}

-- ---- some runs laid from c on: the cursor past them, their rows, their views' rows and their bytes

abbrev pub LaidRuns : Fill → Fill → List ℕ → List ℕ → List ℕ → List ℕ → List ℕ → List ℕ → List Run → Type 0
LaidRuns c q b b' d d' e e' rs =
    (q ≡ plus c (sum run_fill rs))
    × ((b' ≡ write b (c.runs * 3) (runs_laid c rs)) × ((d' ≡ write d (c.views * 16) (runs_views_laid c rs)) × (e' ≡ write e c.bytes (joined run_bytes rs))))

abbrev pub RoomRuns : Fill → ℕ → ℕ → ℕ → List Run → Type 0
RoomRuns c l m n rs = ((c.runs + (sum run_fill rs).runs) * 3 ≤ l) × (((c.views + (sum run_fill rs).views) * 16 ≤ m) × (c.bytes + (sum run_fill rs).bytes ≤ n))

-- ---- what is left of one run, whose views vs are left

module _ (x : Run) (c : Fill) where
  pub run_room : (vs : List View) (l m n : ℕ) → RoomRuns c l m n (kept_run x vs) → RoomViews c m n vs
  unfolding run_fill
  run_room [] l m n h = (omega arith, omega arith)
  run_room (v ∷ vs) l m n h = (omega arith, omega arith)

  module _ (to : Fill) where
    pub run_none : (vs : List View) (b d d' e e' : List ℕ) → LaidViews c to d d' e e' vs → to.views ≡ c.views → LaidRuns c to b b d d' e e' (kept_run x vs)
    unfolding runs_laid runs_views_laid views_laid
    run_none [] b d d' e e' w h = (w.0, (sym (write_none b (c.runs * 3)), (w.1.0, w.1.1)))
    run_none (v ∷ vs) b d d' e e' w h = let n = ap (λ (f : Fill). f.views) (w.0 ∙ ap (plus c) (views_fill (v ∷ vs))) in absurd (omega arith)

    pub run_order : (vs : List View) (l m n : ℕ) → RoomRuns c l m n (kept_run x vs) → to ≡ plus c (sum view_fill vs) → (to.views ≡ c.views → ⊥) → (c.views ≤ to.views) × (to.runs * 3 + 3 ≤ l)
    run_order [] l m n h e d = absurd (d (ap (λ (f : Fill). f.views) e ∙ omega arith))
    run_order (v ∷ vs) l m n h e d = run_row_room c (record { id = x.id; views = v ∷ vs }) to e l (omega (arith, h.0))

    pub run_some : (vs : List View) (q : Fill) (b b' d d' e e' : List ℕ) → LaidViews c to d d' e e' vs → (to.views ≡ c.views → ⊥)
        → q ≡ plus to (one_run 1) → b' ≡ write b (to.runs * 3) (run_words (record { id = x.id; views = record { first = c.views; count = to.views - c.views } }))
        → LaidRuns c q b b' d d' e e' (kept_run x vs)
    unfolding runs_laid runs_views_laid run_bytes
    run_some [] q b b' d d' e e' w n p r = absurd (n (ap (λ (f : Fill). f.views) w.0 ∙ omega arith))
    run_some (v ∷ vs) q b b' d d' e e' w n p r =
        let y : Run = record { id = x.id; views = v ∷ vs } in (
          p ∙ run_past c y to w.0 ∙ ap (plus c) (sym (plus_empty (run_fill y))),
          (
            run_row_lem c y to w.0 b b' r ∙ ap (write b (c.runs * 3)) (sym (append-nil (run_words (run_row c y)))),
            (w.1.0 ∙ ap (write d (c.views * 16)) (sym (append-nil (views_laid c (v ∷ vs)))), w.1.1 ∙ ap (write e c.bytes) (sym (append-nil (joined view_bytes (v ∷ vs))))),
          ),
        )

-- ---- a loop over a window's runs

abbrev pub piece_rows : Column (sum run_fill)
piece_rows = many run_rows

abbrev pub piece_views : Column (sum run_fill)
piece_views = many run_views

abbrev pub piece_pool : Column (sum run_fill)
piece_pool = plain bytes (joined run_bytes) (joined_long run_fill bytes run_bytes run_bytes_long)

runs_pieces : (r : Edges) (f : ℕ → Run) (n : ℕ) → runs_shown r (up_to f n) ≡ all (up_to (λ k. run_piece r (f k)) n)
unfolding runs_shown
runs_pieces r f zero = refl
runs_pieces r f (suc n) = rw (up_to_front f n, all_front (λ k. run_piece r (f k)) (λ k. run_piece r (f (suc k))) (λ k. refl) n, runs_pieces r (λ k. f (suc k)) n)

-- the pieces of the runs from `first` on
abbrev pub piece_in : List ℕ → List ℕ → List ℕ → Edges → ℕ → ℕ → List Run
piece_in runs views pool r first k = run_piece r (run_in views pool (run_at runs (first + k)))

module _ (runs views pool : List ℕ) (w : Window) (r : Edges) (n : ℕ) (e : n ≡ held_of w (length runs / 3)) where
  abbrev shown : List Run
  shown = runs_shown r (runs_in runs views pool w)

  abbrev each : List (List Run)
  each = up_to (piece_in runs views pool r w.first) n

  pub shown_all : shown ≡ all each
  unfolding runs_in
  shown_all = rw (← e) (runs_pieces r (λ k. run_in views pool (run_at runs (w.first + k))) n)

  pub shown_fill : sum (sum run_fill) each ≡ sum run_fill shown
  shown_fill = sum_many run_fill each ∙ ap (sum run_fill) (sym shown_all)

  pub shown_past : (c q : Fill) → q ≡ plus c (sum (sum run_fill) each) → q ≡ plus c (sum run_fill shown)
  shown_past c q h = h ∙ ap (plus c) shown_fill

  pub shown_rows : (c : Fill) (d d' : List ℕ) → d' ≡ write d (c.runs * 3) (column piece_rows c each) → d' ≡ write d (c.runs * 3) (runs_laid c shown)
  unfolding runs_laid
  shown_rows c d d' h = h ∙ ap (write d (c.runs * 3)) (column_many run_rows c each ∙ ap (column run_rows c) (sym shown_all))

  pub shown_views : (c : Fill) (d d' : List ℕ) → d' ≡ write d (c.views * 16) (column piece_views c each) → d' ≡ write d (c.views * 16) (runs_views_laid c shown)
  unfolding runs_views_laid
  shown_views c d d' h = h ∙ ap (write d (c.views * 16)) (column_many run_views c each ∙ ap (column run_views c) (sym shown_all))

  pub shown_bytes : (c : Fill) (d d' : List ℕ) → d' ≡ write d c.bytes (joined (joined run_bytes) each) → d' ≡ write d c.bytes (joined run_bytes shown)
  shown_bytes c d d' h = h ∙ ap (write d c.bytes) (joined_many run_bytes each ∙ ap (joined run_bytes) (sym shown_all))
