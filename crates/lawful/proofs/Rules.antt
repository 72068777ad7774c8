-- The rules of a manifest in tables, by its rows. Assumes nothing.
use Prim.Native.Nat.{ℕ, zero, suc, ◌+◌, ◌-◌, ◌/◌}
use mathlib.Core.Path.{◌≡◌, refl, sym, ◌∙◌}
use mathlib.Core.Bool.{Bool, true, false, not, ◌&&◌}
use mathlib.Core.List.{List, [], ◌∷◌, ◌++◌}
use lib.ListN.{length, get_or}
use mir.Syntax.{w8}
use mir.Val.{Fits}
use Rattle.keys.specs.Key.{less_of}
use Rattle.keys.specs.Prefix.{Bytes, begins_of}
use Rattle.keys.proofs.Places.{bytes_fit, bytes_part}
use Rattle.tables.specs.Layout.{up_to, joined}
use Rattle.tables.specs.Window.{held_of}
use Rattle.tables.specs.declared.Window.{Window}
use Rattle.records.specs.Model.{View, Run, Tree, Segment, Manifest, segment_trees, trees}
use Rattle.records.specs.Row.{view_at, run_at, segment_at}
use Rattle.records.specs.Decode.{Lent, view_in, views_in, run_in, runs_in, tree_in, segment_in, segments_in, manifest_in}
use Rattle.records.specs.declared.TreeRow.{TreeRow}
use Rattle.records.specs.declared.RunRow.{RunRow}
use Rattle.records.specs.declared.ManifestRow.{ManifestRow}
use Rattle.measure.specs.Tests.{all_of, chain, all_below}
use Rattle.measure.specs.Within.{run_views, tree_views, tree_runs, all_views, all_runs}
use Rattle.lawful.specs.Law.{l2_of, apart_of, l3_of, view_lawful, l4_of, follows, some_of, run_lawful, l5_of}
use Rattle.lawful.specs.Steps.{prefix_at}
use Rattle.measure.proofs.Lists.{all_append, all_up_to, all_joined}
use Rattle.lawful.proofs.Neighbours.{chain_up_to, pairs_up_to}
use Rattle.lawful.proofs.Apart.{Apart, near_is_far, apart_of_lem}

-- ---- a window's records
module _ (views pool : List ℕ) (w : Window) where
  pub views_all : (p : View → Bool) → all_of p (views_in views pool w) ≡ all_below (λ k. p (view_in pool (view_at views (w.first + k)))) (held_of w (length views / 16))
  unfolding views_in
  views_all p = all_up_to p (λ k. view_in pool (view_at views (w.first + k))) (held_of w (length views / 16))

  pub views_chain : (r : View → View → Bool) → chain r (views_in views pool w) ≡ all_below (λ k. r (view_in pool (view_at views (w.first + k))) (view_in pool (view_at views (w.first + (k + 1))))) (held_of w (length views / 16) - 1)
  unfolding views_in
  views_chain r = chain_up_to r (λ k. view_in pool (view_at views (w.first + k))) (held_of w (length views / 16))

module _ (runs views pool : List ℕ) (w : Window) where
  pub runs_all : (p : Run → Bool) → all_of p (runs_in runs views pool w) ≡ all_below (λ k. p (run_in views pool (run_at runs (w.first + k)))) (held_of w (length runs / 3))
  unfolding runs_in
  runs_all p = all_up_to p (λ k. run_in views pool (run_at runs (w.first + k))) (held_of w (length runs / 3))

module _ (segments runs views pool : List ℕ) (w : Window) where
  pub segments_all : (p : Segment → Bool) → all_of p (segments_in segments runs views pool w) ≡ all_below (λ k. p (segment_in runs views pool (segment_at segments (w.first + k)))) (held_of w (length segments / 12))
  unfolding segments_in
  segments_all p = all_up_to p (λ k. segment_in runs views pool (segment_at segments (w.first + k))) (held_of w (length segments / 12))

-- ---- a tree, and all trees
pub all_tree : (p : View → Bool) (t : Tree) → all_of p (tree_views t) ≡ (all_of p t.l0 && all_of (λ x. all_of p (run_views x)) t.runs)
all_tree p t = all_append p t.l0 (joined run_views t.runs) ∙ rw (all_joined p run_views t.runs)

module _ {A : Type 0} (p : A → Bool) (g : Tree → List A) where
  all_segments : (ss : List Segment) → all_of (λ t. all_of p (g t)) (segment_trees ss) ≡ all_of (λ s. all_of p (g s.tree)) ss
  all_segments [] = refl
  all_segments (s ∷ ss) = rw (all_segments ss)

  pub all_trees : (m : Manifest) → all_of p (joined g (trees m)) ≡ (all_of p (g m.tree) && all_of (λ s. all_of p (g s.tree)) m.segments)
  all_trees m = all_joined p g (trees m) ∙ rw (all_segments m.segments)

-- ---- a run has a view where its window holds one
some_snoc : (xs : List View) (y : View) → some_of (xs ++ y ∷ []) ≡ true
some_snoc [] y = refl
some_snoc (x ∷ xs) y = refl

some_up_to : (f : ℕ → View) (n : ℕ) → (n ≡ 0 → ⊥) → some_of (up_to f n) ≡ true
some_up_to f zero h = absurd (h refl)
some_up_to f (suc n) h = some_snoc (up_to f n) (f n)

module _ (runs views pool : List ℕ) (i : ℕ) (row : RunRow) (at : row ≡ run_at runs i) (n : ℕ) (e : n ≡ held_of row.views (length views / 16)) where
  pub run_none : n ≡ 0 → false ≡ run_lawful (run_in views pool (run_at runs i))
  unfolding run_lawful run_in views_in
  run_none h = rw (← at) (rw (sym e ∙ h))

  pub run_some : (r : Bool) → (n ≡ 0 → ⊥) → r ≡ chain follows (views_in views pool row.views) → r ≡ run_lawful (run_in views pool (run_at runs i))
  unfolding run_lawful run_in views_in
  run_some r h f = rw (← at) (rw (some_up_to (λ k. view_in pool (view_at views (row.views.first + k))) (held_of row.views (length views / 16)) (rw (← e) h)) f)

pub ruleset runs_by = (run_none, run_some)

-- ---- prefixes that ascend
pub near_rows : (segments pool : List ℕ) (w : Window) → ((i : ℕ) → Fits w8 (get_or pool i 0))
    → (all_below (λ k. less_of (prefix_at segments pool (w.first + k)) (prefix_at segments pool (w.first + (k + 1)))) (held_of w (length segments / 12) - 1)
    && all_below (λ j. all_below (λ i. not (begins_of (prefix_at segments pool (w.first + i)) (prefix_at segments pool (w.first + j))) && not (begins_of (prefix_at segments pool (w.first + j)) (prefix_at segments pool (w.first + i)))) j) (held_of w (length segments / 12)))
    ≡ (all_below (λ k. less_of (prefix_at segments pool (w.first + k)) (prefix_at segments pool (w.first + (k + 1)))) (held_of w (length segments / 12) - 1)
    && all_below (λ k. not (begins_of (prefix_at segments pool (w.first + k)) (prefix_at segments pool (w.first + (k + 1))))) (held_of w (length segments / 12) - 1))
near_rows segments pool w b = sym (near_is_far (held_of w (length segments / 12)) (λ k. prefix_at segments pool (w.first + k)) (λ k. bytes_part _ _ (bytes_fit pool b)))

-- ---- the manifest
module _ (l : Lent) (m : ManifestRow) where
  pub l2_rows : l2_of (manifest_in l m) ≡ all_below (λ k. less_of (prefix_at l.segments l.pool (m.segments.first + k)) (prefix_at l.segments l.pool (m.segments.first + (k + 1)))) (held_of m.segments (length l.segments / 12) - 1)
  unfolding l2_of manifest_in segments_in segment_in
  l2_rows = chain_up_to (λ s t. less_of s.prefix t.prefix) (λ k. segment_in l.runs l.views l.pool (segment_at l.segments (m.segments.first + k))) (held_of m.segments (length l.segments / 12))

  l3_rows : l3_of (manifest_in l m) ≡ all_below (λ j. all_below (λ i. not (begins_of (prefix_at l.segments l.pool (m.segments.first + i)) (prefix_at l.segments l.pool (m.segments.first + j))) && not (begins_of (prefix_at l.segments l.pool (m.segments.first + j)) (prefix_at l.segments l.pool (m.segments.first + i)))) j) (held_of m.segments (length l.segments / 12))
  unfolding l3_of manifest_in segments_in segment_in
  l3_rows = pairs_up_to apart_of (λ k. segment_in l.runs l.views l.pool (segment_at l.segments (m.segments.first + k))) (held_of m.segments (length l.segments / 12))

  pub l2_l3_rows : (b : Bool)
      → b ≡ (all_below (λ k. less_of (prefix_at l.segments l.pool (m.segments.first + k)) (prefix_at l.segments l.pool (m.segments.first + (k + 1)))) (held_of m.segments (length l.segments / 12) - 1)
      && all_below (λ j. all_below (λ i. not (begins_of (prefix_at l.segments l.pool (m.segments.first + i)) (prefix_at l.segments l.pool (m.segments.first + j))) && not (begins_of (prefix_at l.segments l.pool (m.segments.first + j)) (prefix_at l.segments l.pool (m.segments.first + i)))) j) (held_of m.segments (length l.segments / 12)))
      → b ≡ (l2_of (manifest_in l m) && l3_of (manifest_in l m))
  l2_l3_rows b e = rw (l2_rows, l3_rows) e

  -- the prefixes of a manifest that keeps L2 and L3, as selection looks for them
  pub segments_apart : Bytes l.pool → l2_of (manifest_in l m) ≡ true → l3_of (manifest_in l m) ≡ true → Apart (held_of m.segments (length l.segments / 12)) (λ k. prefix_at l.segments l.pool (m.segments.first + k))
  segments_apart b p q =
      apart_of_lem (held_of m.segments (length l.segments / 12)) (λ k. prefix_at l.segments l.pool (m.segments.first + k)) (λ k. bytes_part _ _ b) (sym l2_rows ∙ p) (sym l3_rows ∙ q)

  pub l4_rows : l4_of (manifest_in l m) ≡ (all_of view_lawful (tree_views (tree_in l.runs l.views l.pool m.tree)) && all_of (λ s. all_of view_lawful (tree_views s.tree)) (segments_in l.segments l.runs l.views l.pool m.segments))
  unfolding l4_of all_views manifest_in
  l4_rows = all_trees view_lawful tree_views (manifest_in l m)

  pub l5_rows : l5_of (manifest_in l m) ≡ (all_of run_lawful (runs_in l.runs l.views l.pool m.tree.compacted) && all_of (λ s. all_of run_lawful (tree_runs s.tree)) (segments_in l.segments l.runs l.views l.pool m.segments))
  unfolding l5_of all_runs manifest_in tree_in
  l5_rows = all_trees run_lawful tree_runs (manifest_in l m)

pub tree_rows : (runs views pool : List ℕ) (t : TreeRow) → all_of view_lawful (tree_views (tree_in runs views pool t)) ≡ (all_of view_lawful (views_in views pool t.l0) && all_of (λ x. all_of view_lawful (run_views x)) (runs_in runs views pool t.compacted))
unfolding tree_in
tree_rows runs views pool t = all_tree view_lawful (tree_in runs views pool t)
