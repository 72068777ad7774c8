-- Bounding ranges, by the tests that the code makes, and view by view. Assumes nothing.
use Rattle.std.specs.Prelude.{None, Option, Some}
use Prim.Native.Nat.{ℕ, ◌+◌, ◌/◌, ◌≤◌, ◌<◌}
use mathlib.Core.Path.{◌≡◌, refl, sym, ap, ◌∙◌}
use mathlib.Core.List.{List, [], ◌∷◌, ◌++◌}
use native.Mathlib.Omega.{arith}
use native.Mathlib.Numerals.{add-one}
use lib.ListN.{length}
use Rattle.keys.specs.Range.{Edge, included}
use Rattle.keys.specs.Meet.{meet_of}
use Rattle.keys.specs.Pool.{edge_of, edges_of, meet_in}
use Rattle.keys.specs.declared.Bound.{Bound}
use Rattle.keys.specs.declared.Bound.TheVariants.{Included}
use Rattle.keys.specs.declared.Range.{Range}
use Rattle.tables.specs.Layout.{up_to, joined}
use Rattle.tables.specs.Window.{held_of}
use Rattle.tables.specs.declared.Window.{Window}
use Rattle.tables.proofs.Joined.{joined_append, joined_one}
use Rattle.records.specs.Model.{View, Tree, Segment, effective, seen_edges, segment_trees}
use Rattle.records.specs.Row.{view_at, run_at, segment_at}
use Rattle.records.specs.Decode.{view_in, views_in, run_in, runs_in, tree_in, segment_in, segments_in}
use Rattle.records.specs.declared.ViewRow.{ViewRow}
use Rattle.records.specs.declared.RunRow.{RunRow}
use Rattle.records.specs.declared.TreeRow.{TreeRow}
use Rattle.records.specs.declared.SegmentRow.{SegmentRow}
use Rattle.measure.specs.Within.{run_views, tree_views}
use Rattle.lawful.specs.Steps.{last_bound, seen_row}
use Rattle.lawful.proofs.Arms.{last_edge}
use Rattle.project_views.proofs.Pieces.{span_is}
use Rattle.unite_ranges.specs.Bounding.{earliest, latest, widened, Bounding, spans, with_range, bounding_from}
use Rattle.unite_ranges.specs.Rows.{bounded_in}

pub widened_is : (pool : List ℕ) (a b r : Range) → edge_of pool r.start ≡ earliest (edge_of pool a.start) (edge_of pool b.start)
    → edge_of pool r.end ≡ latest (edge_of pool a.end) (edge_of pool b.end) → edges_of pool r ≡ widened (edges_of pool a) (edges_of pool b)
widened_is pool a b r p q = λ i. record { start = p i; end = q i }

module _ (pool : List ℕ) (b : Option Range) (r : Range) where
  pub with_none : b ≡ None → bounded_in pool (Some r) ≡ with_range (bounded_in pool b) (edges_of pool r)
  with_none e = rw e

  pub with_spans : (q wide : Range) → b ≡ Some q → edges_of pool wide ≡ widened (edges_of pool q) (edges_of pool r)
      → bounded_in pool (Some wide) ≡ with_range (bounded_in pool b) (edges_of pool r)
  with_spans q wide e h = rw e (ap spans h)

pub effective_is : (pool : List ℕ) (v : ViewRow) (end : Bound) (seen m : Range) → end ≡ last_bound v.last → seen ≡ seen_row v.visible
    → m ≡ meet_in pool (record { start = Included v.first.at v.first.len; end = end }) seen → edges_of pool m ≡ effective (view_in pool v)
unfolding view_in
effective_is pool v end seen m p q s =
    span_is pool v end seen m q s
    ∙ ap (λ (z : Edge). meet_of (record { start = included (view_in pool v).first; end = z }) (seen_edges (view_in pool v).visible)) (ap (edge_of pool) p ∙ last_edge pool v.last)

pub view_bounds : (views pool : List ℕ) (i : ℕ) (v : ViewRow) (r : Range) (b q : Bounding) → v ≡ view_at views i → edges_of pool r ≡ effective (view_in pool v)
    → q ≡ with_range b (edges_of pool r) → q ≡ bounding_from b (view_in pool (view_at views i) ∷ [])
unfolding bounding_from
view_bounds views pool i v r b q e h t = t ∙ ap (with_range b) (h ∙ ap (λ z. effective (view_in pool z)) e)

pub ruleset wides = (widened_is, with_none, with_spans, effective_is, view_bounds)

-- ---- a loop: what the first k of some records hold

pub bounding_append : (b : Bounding) (xs ys : List View) → bounding_from b (xs ++ ys) ≡ bounding_from (bounding_from b xs) ys
unfolding bounding_from
bounding_append b [] ys = refl
bounding_append b (x ∷ xs) ys = bounding_append (with_range b (effective x)) xs ys

pub record Wide {A : Type 0} (parts : A → List View) (f : ℕ → A) (n : ℕ) (b₀ b : Bounding) (k : ℕ) : Type 0 where
  pub within : k ≤ n
  pub is : b ≡ bounding_from b₀ (joined parts (up_to f k))

module _ {A : Type 0} {parts : A → List View} {f : ℕ → A} {n : ℕ} {b₀ : Bounding} where
  pub wide_none : Wide parts f n b₀ b₀ 0
  unfolding bounding_from
  wide_none = record { within = omega arith; is = refl }

  module _ {b : Bounding} {k : ℕ} (w : Wide parts f n b₀ b k) where
    pub wide_more : {q : Bounding} → k < n → q ≡ bounding_from b (parts (f k)) → Wide parts f n b₀ q (k + 1)
    wide_more {q} h e =
        record {
          within = omega arith;
          is =
              rw (add-one k, joined_append parts (up_to f k) (f k ∷ []), joined_one parts (f k))
              (e ∙ ap (λ z. bounding_from z (parts (f k))) w.is ∙ sym (bounding_append b₀ (joined parts (up_to f k)) (parts (f k))));
        }

    pub wide_all : n ≤ k → b ≡ bounding_from b₀ (joined parts (up_to f n))
    wide_all h = let e : k ≡ n = omega (arith, w.within) in rw e at w.is

-- a view is a part by itself
abbrev pub one : View → List View
one v = v ∷ []

pub joined_ones : (vs : List View) → joined one vs ≡ vs
joined_ones [] = refl
joined_ones (v ∷ vs) = ap (λ l. v ∷ l) (joined_ones vs)

-- a segment's views are its tree's
abbrev pub segment_views : Segment → List View
segment_views s = tree_views s.tree

pub joined_trees : (ss : List Segment) → joined tree_views (segment_trees ss) ≡ joined segment_views ss
joined_trees [] = refl
joined_trees (s ∷ ss) = ap (λ l. tree_views s.tree ++ l) (joined_trees ss)

-- ---- the views of a window, of a run, of a tree, of a manifest

module _ (views pool : List ℕ) (b q : Bounding) where
  pub views_done : (w : Window) (n : ℕ) → n ≡ held_of w (length views / 16) → q ≡ bounding_from b (joined one (up_to (λ k. view_in pool (view_at views (w.first + k))) n))
      → q ≡ bounding_from b (views_in views pool w)
  unfolding views_in
  views_done w n e h = h ∙ rw e (ap (bounding_from b) (joined_ones (up_to (λ k. view_in pool (view_at views (w.first + k))) (held_of w (length views / 16)))))

  pub run_bounds : (runs : List ℕ) (i : ℕ) (x : RunRow) → x ≡ run_at runs i → q ≡ bounding_from b (views_in views pool x.views) → q ≡ bounding_from b (run_views (run_in views pool (run_at runs i)))
  unfolding run_in
  run_bounds runs i x e h = h ∙ ap (λ (z : RunRow). bounding_from b (views_in views pool z.views)) e

  module _ (runs : List ℕ) where
    pub runs_done : (w : Window) (n : ℕ) → n ≡ held_of w (length runs / 3) → q ≡ bounding_from b (joined run_views (up_to (λ k. run_in views pool (run_at runs (w.first + k))) n))
        → q ≡ bounding_from b (joined run_views (runs_in runs views pool w))
    unfolding runs_in
    runs_done w n e h = h ∙ rw e

    pub tree_bounds : (t : TreeRow) (p : Bounding) → p ≡ bounding_from b (views_in views pool t.l0) → q ≡ bounding_from p (joined run_views (runs_in runs views pool t.compacted))
        → q ≡ bounding_from b (tree_views (tree_in runs views pool t))
    unfolding tree_in
    tree_bounds t p e h = h ∙ ap (λ z. bounding_from z (joined run_views (runs_in runs views pool t.compacted))) e ∙ sym (bounding_append b (views_in views pool t.l0) (joined run_views (runs_in runs views pool t.compacted)))

    module _ (segments : List ℕ) where
      pub segment_bounds : (i : ℕ) (s : SegmentRow) → s ≡ segment_at segments i → q ≡ bounding_from b (tree_views (tree_in runs views pool s.tree))
          → q ≡ bounding_from b (tree_views (segment_in runs views pool (segment_at segments i)).tree)
      unfolding segment_in
      segment_bounds i s e h = h ∙ ap (λ (z : SegmentRow). bounding_from b (tree_views (tree_in runs views pool z.tree))) e

      pub segments_done : (w : Window) (n : ℕ) → n ≡ held_of w (length segments / 12)
          → q ≡ bounding_from b (joined segment_views (up_to (λ k. segment_in runs views pool (segment_at segments (w.first + k))) n))
          → q ≡ bounding_from b (joined tree_views (segment_trees (segments_in segments runs views pool w)))
      unfolding segments_in
      segments_done w n e h = h ∙ rw e (ap (bounding_from b) (sym (joined_trees (up_to (λ k. segment_in runs views pool (segment_at segments (w.first + k))) (held_of w (length segments / 12))))))

  pub all_bounds : (t : Tree) (ts : List Tree) (p : Bounding) → p ≡ bounding_from b (tree_views t) → q ≡ bounding_from p (joined tree_views ts) → q ≡ bounding_from b (joined tree_views (t ∷ ts))
  all_bounds t ts p e h = h ∙ ap (λ z. bounding_from z (joined tree_views ts)) e ∙ sym (bounding_append b (tree_views t) (joined tree_views ts))

pub ruleset bounds = (run_bounds, tree_bounds, segment_bounds, all_bounds)
