-- Runs numbered anew: part by part, and what they fill. Assumes nothing.
use Prim.Native.Nat.{ℕ, zero, suc, ◌-◌, ◌≤◌}
use mathlib.Core.Path.{◌≡◌, refl, sym, ap, ◌∙◌}
use mathlib.Core.List.{List, [], ◌∷◌, ◌++◌, append-nil, map}
use native.Mathlib.Omega.{arith}
use lib.ListN.{length}
use Rattle.tables.specs.Layout.{up_to, joined}
use Rattle.tables.proofs.Joined.{up_to_length, joined_append}
use Rattle.records.specs.Model.{Run, Tree, Segment}
use Rattle.records.specs.Fill.{plus, sum, run_fill, view_fill, tree_fill, segment_fill}
use Rattle.records.specs.Layout.{tree_row}
use Rattle.records.specs.declared.Fill.{Fill}
use Rattle.records.proofs.Laid.{Table, at}
use Rattle.measure.specs.Within.{run_views, tree_runs}
use Rattle.emit.specs.declared.LaidTree.{LaidTree}
use Rattle.project_views.proofs.Many.{all}
use Rattle.unite_trees.specs.Joined.{numbered, numbered_tree, numbered_segments}
use Rattle.unite_trees.specs.Steps.{renumbered, down_from, run_id, segment_runs}

pub numbered_append : (left : ℕ) (xs ys : List Run) → numbered left (xs ++ ys) ≡ numbered left xs ++ numbered (left - length xs) ys
unfolding numbered
numbered_append left [] ys = let e : left - 0 ≡ left = omega arith in rw e
numbered_append left (x ∷ xs) ys =
    let e : left - 1 - length xs ≡ left - length (x ∷ xs) = omega arith in
    ap (λ l. renumbered (left - 1) x ∷ l) (numbered_append (left - 1) xs ys ∙ ap (λ (n : ℕ). numbered (left - 1) xs ++ numbered n ys) e)

-- run k of n, where each is read by its place
pub numbered_up_to : (left : ℕ) (f : ℕ → Run) (n : ℕ) → numbered left (up_to f n) ≡ up_to (λ k. renumbered (left - k - 1) (f k)) n
unfolding numbered
numbered_up_to left f zero = refl
numbered_up_to left f (suc n) = numbered_append left (up_to f n) (f n ∷ []) ∙ rw (numbered_up_to left f n, up_to_length f n)

-- tree by tree: the runs of tree k, where those of the trees before it have their numbers
abbrev pub numbered_at : ℕ → (ℕ → Tree) → ℕ → List Run
numbered_at left f k = numbered (left - length (joined tree_runs (up_to f k))) (tree_runs (f k))

pub numbered_pieces : (left : ℕ) (f : ℕ → Tree) (n : ℕ) → all (up_to (numbered_at left f) n) ≡ numbered left (joined tree_runs (up_to f n))
unfolding numbered
numbered_pieces left f zero = refl
numbered_pieces left f (suc n) =
    joined_append (λ xs. xs) (up_to (numbered_at left f) n) (numbered_at left f n ∷ [])
    ∙ rw (append-nil (numbered_at left f n), numbered_pieces left f n, joined_append tree_runs (up_to f n) (f n ∷ []), append-nil (tree_runs (f n)))
    (sym (numbered_append left (joined tree_runs (up_to f n)) (tree_runs (f n))))

-- ---- a number fills nothing

pub numbered_fill : (left : ℕ) (rs : List Run) → sum run_fill (numbered left rs) ≡ sum run_fill rs
unfolding numbered run_fill
numbered_fill left [] = refl
numbered_fill left (r ∷ rs) = rw (numbered_fill (left - 1) rs)

-- THE LAW that the result fills what the joined tree fills
pub numbered_tree_fill : (left : ℕ) (t : Tree) → tree_fill (numbered_tree left t) ≡ tree_fill t
unfolding numbered_tree tree_fill
numbered_tree_fill left t = ap (plus (sum view_fill t.l0)) (numbered_fill left t.runs)

-- ---- "Run ids descend from count-1 to 0"

-- THE NUMBERING LAW: of n runs, numbered from n on, the ids are n - 1 to 0
pub numbered_ids : (rs : List Run) → map run_id (numbered (length rs) rs) ≡ down_from (length rs)
unfolding numbered
numbered_ids [] = refl
numbered_ids (r ∷ rs) =
    let e : length (r ∷ rs) - 1 ≡ length rs = omega arith in
    rw e (ap (λ l. length rs ∷ l) (numbered_ids rs))

-- a number changes no view
pub numbered_views : (left : ℕ) (rs : List Run) → map run_views (numbered left rs) ≡ map run_views rs
unfolding numbered
numbered_views left [] = refl
numbered_views left (r ∷ rs) = ap (λ l. r.views ∷ l) (numbered_views (left - 1) rs)

-- "then segments in order": through all of them as through one list
pub numbered_segments_lem : (left : ℕ) (ss : List Segment) → joined segment_runs (numbered_segments left ss) ≡ numbered left (joined segment_runs ss)
unfolding numbered numbered_tree numbered_segments
numbered_segments_lem left [] = refl
numbered_segments_lem left (s ∷ ss) =
    ap (λ l. numbered left s.tree.runs ++ l) (numbered_segments_lem (left - length s.tree.runs) ss)
    ∙ sym (numbered_append left s.tree.runs (joined segment_runs ss))

pub numbered_segments_fill : (left : ℕ) (ss : List Segment) → sum segment_fill (numbered_segments left ss) ≡ sum segment_fill ss
unfolding numbered_segments segment_fill
numbered_segments_fill left [] = refl
numbered_segments_fill left (s ∷ ss) = rw (numbered_tree_fill left s.tree, numbered_segments_fill (left - length s.tree.runs) ss)

-- ---- a tree laid with its new numbers

module _ (left : ℕ) (t : Tree) (c : Fill) where
  pub numbered_laid : (q : LaidTree) → q ≡ record { tree = tree_row c (numbered_tree left t); past = plus c (tree_fill (numbered_tree left t)) }
      → q ≡ record { tree = tree_row c (numbered_tree left t); past = plus c (tree_fill t) }
  numbered_laid q h = h ∙ ap (λ (f : Fill). record { tree = tree_row c (numbered_tree left t); past = plus c f }) (numbered_tree_fill left t)

  pub numbered_room : (b : Table) (n : ℕ) → at b (plus c (tree_fill t)) ≤ n → at b (plus c (tree_fill (numbered_tree left t))) ≤ n
  numbered_room b n h = rw (numbered_tree_fill left t) h
