-- The SST ids of the views that are left, listed. Assumes nothing.
use Rattle.std.specs.Prelude.{None, Option, Some}
use Prim.Native.Nat.{ℕ, zero, suc, ◌+◌, ◌*◌, ◌/◌, ◌≤◌, ◌<◌}
use mathlib.Core.Path.{◌≡◌, refl, sym, ap, ◌∙◌}
use mathlib.Core.Bool.{Bool}
use mathlib.Core.List.{List, [], ◌∷◌, ◌++◌, append-nil}
use native.Mathlib.Omega.{arith}
use lib.ListN.{length, length-append}
use Rattle.keys.specs.Range.{Edges}
use Rattle.ids.specs.declared.SstId.{SstId}
use Rattle.tables.specs.Layout.{write, up_to, joined}
use Rattle.tables.specs.Window.{held_of}
use Rattle.tables.specs.declared.Window.{Window}
use Rattle.tables.proofs.Joined.{joined_append}
use Rattle.tables.proofs.Writes.{write_none}
use Rattle.records.specs.Model.{View, Run, Tree}
use Rattle.records.specs.Row.{run_at}
use Rattle.records.specs.Decode.{view_in, views_in, run_in, runs_in}
use Rattle.records.specs.Words.{id_words}
use Rattle.records.specs.Fill.{plus, sum, tree_fill, ids as id_cells}
use Rattle.records.specs.Layout.{ids_laid}
use Rattle.records.specs.declared.Fill.{Fill}
use Rattle.records.specs.declared.ViewRow.{ViewRow}
use Rattle.records.proofs.Sums.{plus_empty, plus_assoc}
use Rattle.records.proofs.Laid.{Column, at, ids}
use Rattle.records.proofs.Columns.{tree_fill_lem, id_fill, ids_fill}
use Rattle.emit.proofs.Laid.{plain, put_then, Walk, Grown, walk_none, walk_more, walk_all_lem, grown_none, grown_room, grown_more, joined_all}
use Rattle.emit.proofs.Columns.{ids_laid_long}
use Rattle.measure.specs.Within.{run_views, tree_views, ids_used}
use Rattle.project_views.specs.Shown.{kept_run, run_shown, runs_shown}
use Rattle.project_views.specs.Steps.{left_in, ids_left, views_shown}
use Rattle.project_views.specs.declared.Reach.{Reach}
use Rattle.project_views.proofs.Many.{all, sum_many, joined_many}
use Rattle.project_views.proofs.Shows.{piece_in, shown_all}

pub used_append : (xs ys : List View) → ids_used (xs ++ ys) ≡ ids_used xs ++ ids_used ys
used_append [] ys = refl
used_append (v ∷ xs) ys = ap (λ l. v.sst ∷ l) (used_append xs ys)

-- one for each view
used_long : (vs : List View) → length (ids_used vs) ≡ length vs
used_long [] = refl
used_long (v ∷ vs) = ap suc (used_long vs)

pub tree_used : (t : Tree) → length (ids_used (tree_views t)) ≡ (tree_fill t).views
tree_used t = used_long (tree_views t) ∙ rw (tree_fill_lem t) (omega arith)

-- piece by piece
used_all : (f : ℕ → List View) (n : ℕ) → ids_used (all (up_to f n)) ≡ all (up_to (λ k. ids_used (f k)) n)
used_all f zero = refl
used_all f (suc n) =
    rw (joined_append (λ x. x) (up_to f n) (f n ∷ []), append-nil (f n), joined_append (λ x. x) (up_to (λ k. ids_used (f k)) n) (ids_used (f n) ∷ []), append-nil (ids_used (f n)), ← used_all f n)
    (used_append (all (up_to f n)) (f n))

-- ---- one view

pub left_used : (pool : List ℕ) (k : Option (ViewRow × Reach)) → ids_used (left_in pool k) ≡ ids_left k
unfolding view_in
left_used pool None = refl
left_used pool (Some (v, seen)) = refl

-- some ids laid from c on
abbrev pub LaidIds : Fill → Fill → List ℕ → List ℕ → List SstId → Type 0
LaidIds c q d d' xs = (q ≡ plus c (id_cells (length xs))) × (d' ≡ write d (c.ids * 2) (ids_laid xs))

module _ (k : Option (ViewRow × Reach)) (c : Fill) (d : List ℕ) where
  pub id_none : k ≡ None → LaidIds c c d d (ids_left k)
  unfolding ids_laid
  id_none t = rw t (sym (plus_empty c), sym (write_none d (c.ids * 2)))

  module _ (v : ViewRow) (x : Reach) (t : k ≡ Some (v, x)) where
    pub id_room_lem : (n : ℕ) → (c.ids + length (ids_left k)) * 2 ≤ n → (c.ids + 1) * 2 ≤ n
    id_room_lem n h = rw t at h

    pub id_one : (q : Fill) (d' : List ℕ) → q ≡ plus c (id_cells 1) → d' ≡ write d (c.ids * 2) (id_words v.sst) → LaidIds c q d d' (ids_left k)
    unfolding ids_laid
    id_one q d' p w = rw t (p, w ∙ ap (write d (c.ids * 2)) (sym (append-nil (id_words v.sst))))

-- what one view leaves, from what its answer says
pub piece_used : (pool : List ℕ) (k : Option (ViewRow × Reach)) (vs : List View) → left_in pool k ≡ vs → ids_left k ≡ ids_used vs
piece_used pool k vs e = sym (left_used pool k) ∙ ap ids_used e

-- ---- a loop that lists the ids of n pieces

pub laid_long : (xs : List SstId) → length (ids_laid xs) ≡ at ids (sum id_fill xs)
laid_long xs = ids_laid_long xs ∙ rw (ids_fill xs)

abbrev pub id_pieces : Column (sum id_fill)
id_pieces = plain ids ids_laid laid_long

pub record Listed (f : ℕ → List SstId) (n : ℕ) (c₀ c : Fill) (d₀ d : List ℕ) (k : ℕ) : Type 0 where
  pub walk : Walk (sum id_fill) f n c₀ c k
  pub grown : Grown id_pieces f n c₀ d₀ d k

all_fill : (f : ℕ → List SstId) (n : ℕ) (xs : List SstId) → xs ≡ all (up_to f n) → sum (sum id_fill) (up_to f n) ≡ id_cells (length xs)
all_fill f n xs e = sum_many id_fill (up_to f n) ∙ ap (sum id_fill) (sym e) ∙ ids_fill xs

module _ {f : ℕ → List SstId} {n : ℕ} {c₀ : Fill} {d₀ : List ℕ} where
  pub listed_none : (xs : List SstId) → xs ≡ all (up_to f n) → (c₀.ids + length xs) * 2 ≤ length d₀ → Listed f n c₀ c₀ d₀ d₀ 0
  listed_none xs e h = record { walk = walk_none; grown = grown_none (rw (all_fill f n xs e) h) }

  module _ {c : Fill} {d : List ℕ} {k : ℕ} (l : Listed f n c₀ c d₀ d k) where
    pub listed_room : k < n → (c.ids + length (f k)) * 2 ≤ length d
    listed_room h = rw (ids_fill (f k)) at (grown_room l.walk l.grown h)

    pub listed_more : {q : Fill} {d' : List ℕ} → k < n → LaidIds c q d d' (f k) → Listed f n c₀ q d₀ d' (k + 1)
    listed_more h w =
        record {
          walk = walk_more l.walk h (w.0 ∙ ap (plus c) (sym (ids_fill (f k))));
          grown = grown_more l.walk l.grown h w.1;
        }

    pub listed_all : (xs : List SstId) → xs ≡ all (up_to f n) → n ≤ k → LaidIds c₀ c d₀ d xs
    unfolding ids_laid
    listed_all xs e h = (
      walk_all_lem l.walk h ∙ ap (plus c₀) (all_fill f n xs e),
      joined_all l.walk l.grown h ∙ ap (write d₀ (c₀.ids * 2)) (joined_many id_words (up_to f n) ∙ ap (joined id_words) (sym e)),
    )

-- ---- the views of a window, and the runs of one

abbrev pub ids_in : List ℕ → List ℕ → Edges → Bool → ℕ → ℕ → ℕ → List SstId
ids_in views pool r overlap first n k = ids_used (piece_in views pool r overlap first n k)

pub views_ids : (views pool : List ℕ) (w : Window) (r : Edges) (overlap : Bool) (n : ℕ) → n ≡ held_of w (length views / 16)
    → ids_used (views_shown overlap r (views_in views pool w)) ≡ all (up_to (ids_in views pool r overlap w.first n) n)
views_ids views pool w r overlap n e = ap ids_used (shown_all views pool w r overlap n e) ∙ used_all (piece_in views pool r overlap w.first n) n

abbrev pub run_ids_in : List ℕ → List ℕ → List ℕ → Edges → ℕ → ℕ → List SstId
run_ids_in runs views pool r first k = ids_used (run_shown r (run_in views pool (run_at runs (first + k))).views)

run_views_lem : (x : Run) (vs : List View) → joined run_views (kept_run x vs) ≡ vs
run_views_lem x [] = refl
run_views_lem x (v ∷ vs) = append-nil (v ∷ vs)

runs_views_lem : (r : Edges) (xs : List Run) → joined run_views (runs_shown r xs) ≡ joined (λ x. run_shown r x.views) xs
unfolding runs_shown
runs_views_lem r [] = refl
runs_views_lem r (x ∷ xs) = joined_append run_views (kept_run x (run_shown r x.views)) (runs_shown r xs) ∙ rw (run_views_lem x (run_shown r x.views), runs_views_lem r xs)

joined_up_to : {A B : Type 0} (g : A → List B) (f : ℕ → A) (n : ℕ) → joined g (up_to f n) ≡ all (up_to (λ k. g (f k)) n)
joined_up_to g f zero = refl
joined_up_to g f (suc n) = rw (joined_append g (up_to f n) (f n ∷ []), joined_append (λ x. x) (up_to (λ k. g (f k)) n) (g (f n) ∷ []), joined_up_to g f n)

pub runs_ids : (runs views pool : List ℕ) (w : Window) (r : Edges) (n : ℕ) → n ≡ held_of w (length runs / 3)
    → ids_used (joined run_views (runs_shown r (runs_in runs views pool w))) ≡ all (up_to (run_ids_in runs views pool r w.first) n)
unfolding runs_in
runs_ids runs views pool w r n e =
    ap ids_used (runs_views_lem r (up_to (λ k. run_in views pool (run_at runs (w.first + k))) (held_of w (length runs / 3))) ∙ joined_up_to (λ x. run_shown r x.views) (λ k. run_in views pool (run_at runs (w.first + k))) (held_of w (length runs / 3)))
    ∙ used_all (λ k. run_shown r (run_in views pool (run_at runs (w.first + k))).views) (held_of w (length runs / 3))
    ∙ rw (← e)

-- ---- a tree: xs were listed from c to `to`, and ys after them

module _ (c : Fill) (vs us : List View) where
  abbrev both : List SstId
  both = ids_used (vs ++ us)

  both_long : length both ≡ length (ids_used vs) + length (ids_used us)
  both_long = ap length (used_append vs us) ∙ length-append (ids_used vs) (ids_used us)

  pub both_first : (n : ℕ) → (c.ids + length both) * 2 ≤ n → (c.ids + length (ids_used vs)) * 2 ≤ n
  both_first n h = omega (arith, both_long)

  module _ (to : Fill) (p : to ≡ plus c (id_cells (length (ids_used vs)))) where
    pub both_rest : (n : ℕ) → (c.ids + length both) * 2 ≤ n → (to.ids + length (ids_used us)) * 2 ≤ n
    both_rest n h = rw p (omega (arith, both_long))

    pub both_laid : (q : Fill) (d d₁ d₂ : List ℕ) → (c.ids + length both) * 2 ≤ length d → d₁ ≡ write d (c.ids * 2) (ids_laid (ids_used vs)) → q ≡ plus to (id_cells (length (ids_used us))) → d₂ ≡ write d₁ (to.ids * 2) (ids_laid (ids_used us))
        → LaidIds c q d d₂ both
    unfolding ids_laid
    both_laid q d d₁ d₂ h w e v = (
      e ∙ rw p (plus_assoc c (id_cells (length (ids_used vs))) (id_cells (length (ids_used us))) ∙ ap (λ (n : ℕ). plus c (id_cells n)) (sym both_long)),
      put_then ids c (id_cells (length (ids_used vs))) to (id_cells (length both)) d d₁ d₂ (joined id_words (ids_used vs)) (joined id_words (ids_used us)) h p (ids_laid_long (ids_used vs)) w v
          ∙ ap (write d (c.ids * 2)) (sym (joined_append id_words (ids_used vs) (ids_used us)) ∙ ap (joined id_words) (sym (used_append vs us))),
    )
