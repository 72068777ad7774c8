-- Trees joined part by part, measured and laid. Assumes nothing.
use Rattle.std.specs.Prelude.{None, Option, Some}
use Prim.Native.Nat.{ℕ, zero, suc, ◌+◌, ◌-◌, ◌*◌, ◌/◌, ◌≤◌, ◌<◌}
use mathlib.Core.Path.{◌≡◌, refl, sym, ap, ◌∙◌}
use mathlib.Core.List.{List, [], ◌∷◌, ◌++◌, append-nil, map, map-append}
use native.Mathlib.Omega.{arith}
use lib.ListN.{length, get_or, length-append, get_or-eq_default}
use Rattle.tables.specs.Layout.{write, up_to, joined}
use Rattle.tables.specs.Window.{held_of}
use Rattle.tables.specs.declared.Window.{Window}
use Rattle.tables.proofs.Joined.{up_to_length, up_to_more, joined_append}
use Rattle.records.specs.Model.{View, Run, Tree}
use Rattle.records.specs.Row.{tree_at, run_at, at as word_at}
use Rattle.records.specs.Decode.{views_in, run_in, runs_in, tree_in}
use Rattle.records.specs.Fill.{plus, sum, runs as one_run, view_fill, run_fill, tree_fill}
use Rattle.records.specs.Layout.{view_bytes, views_laid, run_bytes, runs_laid, runs_views_laid}
use Rattle.records.specs.declared.Fill.{Fill}
use Rattle.records.specs.declared.RunRow.{RunRow}
use Rattle.records.specs.declared.TreeRow.{TreeRow}
use Rattle.records.proofs.Sums.{fill_same, sum_append}
use Rattle.records.proofs.Laid.{column}
use Rattle.records.proofs.Columns.{view_rows, run_rows, run_views}
use Rattle.emit.proofs.Laid.{Walk}
use Rattle.emit.proofs.Columns.{runs_counted}
use Rattle.measure.specs.Walk.{add_of}
use Rattle.measure.specs.Within.{tree_runs}
use Rattle.project_views.proofs.Many.{all, sum_many, joined_many, column_many}
use Rattle.project_views.proofs.Shows as shows
use Rattle.project_views.proofs.Runs as pieces
use Rattle.project_views.proofs.Summed.{added_broken, added_on}
use Rattle.unite_ranges.specs.Arranged.{whats}
use Rattle.unite_ranges.specs.Rows.{ranged_in}
use Rattle.unite_ranges.proofs.Mapped.{whats_rows}
use Rattle.unite_trees.specs.Rows.{trees_in}
use Rattle.unite_trees.specs.Joined.{tree_l0, joined_tree, numbered}
use Rattle.unite_trees.specs.Steps.{renumbered}
use Rattle.unite_trees.proofs.Numbers.{numbered_at, numbered_up_to, numbered_pieces, numbered_fill}

-- ---- words past the end of a table

pub word_none : (t : List ℕ) (i : ℕ) → length t ≤ i → 0 ≡ get_or t i 0
word_none t i h = sym (get_or-eq_default t 0 {n = i} h)

pub tree_none : (t : List ℕ) (b : ℕ) → length t ≤ b
    → record { view = None; sst = None; l0 = record { first = 0; count = 0 }; compacted = record { first = 0; count = 0 } } ≡ tree_at t b
unfolding tree_at
tree_none t b h =
    rw (
      ← word_none t b h,
      ← word_none t (b + 3) (omega arith),
      ← word_none t (b + 6) (omega arith),
      ← word_none t (b + 6 + 1) (omega arith),
      ← word_none t (b + 8) (omega arith),
      ← word_none t (b + 8 + 1) (omega arith),
    )

-- ---- measured

pub trees_fill : (ts : List Tree) → sum tree_fill ts ≡ tree_fill (joined_tree ts)
unfolding joined_tree tree_fill
trees_fill [] = fill_same (omega arith, omega arith, omega arith, omega arith, omega arith, omega arith)
trees_fill (t ∷ ts) =
    let e = trees_fill ts in
    rw (e, sum_append view_fill t.l0 (joined tree_l0 ts), sum_append run_fill t.runs (joined tree_runs ts))
    (fill_same (omega arith, omega arith, omega arith, omega arith, omega arith, omega arith))

-- a run is its views and its row
module _ (most c : Fill) (views pool runs : List ℕ) (i : ℕ) (x : RunRow) (e : x ≡ run_at runs i) (s : Option Fill) (h : s ≡ add_of most c (sum view_fill (views_in views pool x.views))) where
  run_parts : plus (sum view_fill (views_in views pool x.views)) (one_run 1) ≡ run_fill (run_in views pool (run_at runs i))
  unfolding run_in run_fill
  run_parts = rw e (fill_same (omega arith, omega arith, omega arith, omega arith, omega arith, omega arith))

  pub run_broken : s ≡ None → None ≡ add_of most c (run_fill (run_in views pool (run_at runs i)))
  run_broken k = added_broken most c (sum view_fill (views_in views pool x.views)) (one_run 1) (run_fill (run_in views pool (run_at runs i))) run_parts s h k

  pub run_added : (d : Fill) (r : Option Fill) → s ≡ Some d → r ≡ add_of most d (one_run 1) → r ≡ add_of most c (run_fill (run_in views pool (run_at runs i)))
  run_added d r k m = added_on most c (sum view_fill (views_in views pool x.views)) (one_run 1) (run_fill (run_in views pool (run_at runs i))) run_parts s d r h k m

-- a tree is its L0 and its runs
module _ (most c : Fill) (views pool runs : List ℕ) (x y : TreeRow) (e : x ≡ y) (s : Option Fill) (h : s ≡ add_of most c (sum view_fill (views_in views pool x.l0))) where
  tree_parts : plus (sum view_fill (views_in views pool x.l0)) (sum run_fill (runs_in runs views pool x.compacted)) ≡ tree_fill (tree_in runs views pool y)
  unfolding tree_in tree_fill
  tree_parts = rw e

  pub tree_broken : s ≡ None → None ≡ add_of most c (tree_fill (tree_in runs views pool y))
  tree_broken k = added_broken most c (sum view_fill (views_in views pool x.l0)) (sum run_fill (runs_in runs views pool x.compacted)) (tree_fill (tree_in runs views pool y)) tree_parts s h k

  pub tree_added : (d : Fill) (r : Option Fill) → s ≡ Some d → r ≡ add_of most d (sum run_fill (runs_in runs views pool x.compacted)) → r ≡ add_of most c (tree_fill (tree_in runs views pool y))
  tree_added d r k m = added_on most c (sum view_fill (views_in views pool x.l0)) (sum run_fill (runs_in runs views pool x.compacted)) (tree_fill (tree_in runs views pool y)) tree_parts s d r h k m

-- ---- L0 of all trees, laid piece by piece

pub all_joined : {A B : Type 0} (g : A → List B) (f : ℕ → A) (n : ℕ) → all (up_to (λ i. g (f i)) n) ≡ joined g (up_to f n)
all_joined g f zero = refl
all_joined g f (suc n) =
    joined_append (λ xs. xs) (up_to (λ i. g (f i)) n) (g (f n) ∷ [])
    ∙ rw (all_joined g f n, joined_append g (up_to f n) (f n ∷ []))

module _ (vs : List View) (xss : List (List View)) (h : all xss ≡ vs) where
  pub views_fill_is : sum (sum view_fill) xss ≡ sum view_fill vs
  views_fill_is = sum_many view_fill xss ∙ ap (sum view_fill) h

  pub views_rows_are : (c : Fill) (d d' : List ℕ) → d' ≡ write d (c.views * 16) (column shows.piece_rows c xss) → d' ≡ write d (c.views * 16) (views_laid c vs)
  unfolding views_laid
  views_rows_are c d d' e = e ∙ ap (write d (c.views * 16)) (column_many view_rows c xss ∙ ap (column view_rows c) h)

  pub views_bytes_are : (c : Fill) (d d' : List ℕ) → d' ≡ write d c.bytes (joined (joined view_bytes) xss) → d' ≡ write d c.bytes (joined view_bytes vs)
  views_bytes_are c d d' e = e ∙ ap (write d c.bytes) (joined_many view_bytes xss ∙ ap (joined view_bytes) h)

module _ (rs : List Run) (xss : List (List Run)) (h : all xss ≡ rs) where
  pub runs_fill_is : sum (sum run_fill) xss ≡ sum run_fill rs
  runs_fill_is = sum_many run_fill xss ∙ ap (sum run_fill) h

  pub runs_rows_are : (c : Fill) (d d' : List ℕ) → d' ≡ write d (c.runs * 3) (column pieces.piece_rows c xss) → d' ≡ write d (c.runs * 3) (runs_laid c rs)
  unfolding runs_laid
  runs_rows_are c d d' e = e ∙ ap (write d (c.runs * 3)) (column_many run_rows c xss ∙ ap (column run_rows c) h)

  pub runs_views_are : (c : Fill) (d d' : List ℕ) → d' ≡ write d (c.views * 16) (column pieces.piece_views c xss) → d' ≡ write d (c.views * 16) (runs_views_laid c rs)
  unfolding runs_views_laid
  runs_views_are c d d' e = e ∙ ap (write d (c.views * 16)) (column_many run_views c xss ∙ ap (column run_views c) h)

  pub runs_bytes_are : (c : Fill) (d d' : List ℕ) → d' ≡ write d c.bytes (joined (joined run_bytes) xss) → d' ≡ write d c.bytes (joined run_bytes rs)
  runs_bytes_are c d d' e = e ∙ ap (write d c.bytes) (joined_many run_bytes xss ∙ ap (joined run_bytes) h)

-- ---- how many runs are left to be numbered

module _ (left n : ℕ) (f : ℕ → Tree) (c to : Fill) (k : ℕ) (w : Walk (sum run_fill) (numbered_at left f) n c to k) where
  pub laid_so_far : to.runs ≡ c.runs + length (joined tree_runs (up_to f k))
  laid_so_far =
      ap (λ (z : Fill). z.runs) w.past
      ∙ ap (λ (z : ℕ). c.runs + z)
      (ap (λ (z : Fill). z.runs) (runs_fill_is (numbered left (joined tree_runs (up_to f k))) (up_to (numbered_at left f) k) (numbered_pieces left f k) ∙ numbered_fill left (joined tree_runs (up_to f k)))
      ∙ runs_counted (joined tree_runs (up_to f k)))

  pub left_now : left - (to.runs - c.runs) ≡ left - length (joined tree_runs (up_to f k))
  left_now = let e : to.runs - c.runs ≡ length (joined tree_runs (up_to f k)) = omega (arith, laid_so_far) in rw e

-- those of tree k are among those of all
pub part_within : (f : ℕ → Tree) (n k : ℕ) → k < n → length (joined tree_runs (up_to f k)) + length (tree_runs (f k)) ≤ length (joined tree_runs (up_to f n))
part_within f n k h =
    let r = up_to_more f (suc k) n h in
    let e : length (joined tree_runs (up_to f n)) ≡ length (joined tree_runs (up_to f k)) + length (tree_runs (f k)) + length (joined tree_runs r.0) =
    rw (r.1, joined_append tree_runs (up_to f (suc k)) r.0, joined_append tree_runs (up_to f k) (f k ∷ []), append-nil (tree_runs (f k)), length-append (joined tree_runs (up_to f k) ++ tree_runs (f k)) (joined tree_runs r.0), length-append (joined tree_runs (up_to f k)) (tree_runs (f k))) in
    omega (arith, e)

-- ---- the runs of a window, numbered

module _ (runs views pool : List ℕ) (w : Window) (n : ℕ) (e : n ≡ held_of w (length runs / 3)) where
  window_is : runs_in runs views pool w ≡ up_to (λ k. run_in views pool (run_at runs (w.first + k))) n
  unfolding runs_in
  window_is = rw e

  pub numbered_window : (left : ℕ) → up_to (λ k. renumbered (left - k - 1) (run_in views pool (run_at runs (w.first + k)))) n ≡ numbered left (runs_in runs views pool w)
  numbered_window left = sym (ap (numbered left) window_is ∙ numbered_up_to left (λ k. run_in views pool (run_at runs (w.first + k))) n)

  pub window_few : (left : ℕ) → length (runs_in runs views pool w) ≤ left → n ≤ left
  window_few left h = omega (arith, ap length window_is, up_to_length (λ k. run_in views pool (run_at runs (w.first + k))) n)

-- ---- the trees that rows name: what is arranged is their places

map_up_to : {A B : Type 0} (g : A → B) (f : ℕ → A) (n : ℕ) → map g (up_to f n) ≡ up_to (λ i. g (f i)) n
map_up_to g f zero = refl
map_up_to g f (suc n) = map-append g (up_to f n) (f n ∷ []) ∙ ap (λ l. l ++ (g (f n) ∷ [])) (map_up_to g f n)

pub trees_named : (t rows : List ℕ) (n : ℕ) (runs views pool : List ℕ)
    → trees_in t rows n runs views pool ≡ map (λ w. tree_in runs views pool (tree_at t w)) (whats (ranged_in pool rows n))
unfolding trees_in
trees_named t rows n runs views pool =
    sym (ap (map (λ w. tree_in runs views pool (tree_at t w))) (whats_rows pool rows n) ∙ map_up_to (λ w. tree_in runs views pool (tree_at t w)) (λ i. word_at rows (i * 7)) n)
