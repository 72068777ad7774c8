-- The tree that some segments have at a prefix, and the trees that are entered. Assumes nothing.
use Prim.Native.Nat.{ℕ, zero, suc, ◌+◌, ◌*◌, ◌/◌, ◌≤◌, ◌<◌}
use mathlib.Core.Path.{◌≡◌, refl, sym, ap, ◌∙◌}
use mathlib.Core.Bool.{Bool, true, false, not}
use mathlib.Core.List.{List, [], ◌∷◌, ◌++◌, map}
use native.Mathlib.Omega.{arith}
use lib.ListN.{length}
use Rattle.keys.specs.Pick.{pick}
use Rattle.tables.specs.Layout.{up_to}
use Rattle.tables.specs.Window.{held_of}
use Rattle.tables.specs.declared.Window.{Window}
use Rattle.tables.proofs.Holds.{up_to_front}
use Rattle.records.specs.Model.{Tree, Segment}
use Rattle.records.specs.New.{new_tree}
use Rattle.records.specs.Row.{window_at, tree_at, segment_at}
use Rattle.records.specs.Decode.{Lent, tree_in, segment_in, segments_in}
use Rattle.records.specs.declared.SegmentRow.{SegmentRow}
use Rattle.measure.specs.Within.{tree_views}
use Rattle.segments.specs.Prefixes.{leading, prefixes_in}
use Rattle.segments.specs.Lookup.{same_of, index_of}
use Rattle.merge.specs.Merge.{tree_of}
use Rattle.unite_ranges.specs.Bounding.{Bounding, none, spans, bounding_from, bounding_of}
use Rattle.unite_ranges.specs.Arranged.{Ranged, arranged_from}
use Rattle.unite_ranges.proofs.Mapped.{renamed, from_renamed}
use Rattle.unite_sources.specs.Used.{ranged_as}
use Rattle.unite_sources.specs.Rows.{trees_at_in, ranged_trees}

-- the bounding range of a segment's tree
pub tree_bounds : (segments runs views pool : List ℕ) (i : ℕ) (s : SegmentRow) (q : Bounding) → s ≡ segment_at segments i → q ≡ bounding_of (tree_views (tree_in runs views pool s.tree))
    → q ≡ bounding_of (tree_views (tree_in runs views pool (tree_at segments (i * 12 + 2))))
unfolding segment_at
tree_bounds segments runs views pool i s q e h = h ∙ ap (λ (z : SegmentRow). bounding_of (tree_views (tree_in runs views pool z.tree))) e

-- ---- the first with that prefix

abbrev first_at : (ℕ → Segment) → ℕ → List ℕ → ℕ
first_at f n p = leading (λ q. not (same_of q p)) (up_to (λ k. (f k).prefix) n)

tree_found : (f : ℕ → Segment) (n : ℕ) (p : List ℕ) → first_at f n p < n → tree_of (up_to f n) p ≡ (f (first_at f n p)).tree
unfolding tree_of
tree_found f zero p h = absurd (omega arith)
tree_found f (suc n) p h = rw (up_to_front f n, up_to_front (λ k. (f k).prefix) n) (go (same_of (f 0).prefix p) (rw (up_to_front (λ k. (f k).prefix) n) at h) (tree_found (λ k. f (suc k)) n p))
  where
    go : (b : Bool) → pick (not b) (suc (first_at (λ k. f (suc k)) n p)) 0 < suc n
        → (first_at (λ k. f (suc k)) n p < n → tree_of (up_to (λ k. f (suc k)) n) p ≡ (f (suc (first_at (λ k. f (suc k)) n p))).tree)
        → pick b (f 0).tree (tree_of (up_to (λ k. f (suc k)) n) p) ≡ (f (pick (not b) (suc (first_at (λ k. f (suc k)) n p)) 0)).tree
    go true h ih = refl
    go false h ih = ih (omega arith)

tree_none : (f : ℕ → Segment) (n : ℕ) (p : List ℕ) → n ≤ first_at f n p → tree_of (up_to f n) p ≡ new_tree
unfolding tree_of
tree_none f zero p h = refl
tree_none f (suc n) p h = rw (up_to_front f n) (go (same_of (f 0).prefix p) (rw (up_to_front (λ k. (f k).prefix) n) at h) (tree_none (λ k. f (suc k)) n p))
  where
    go : (b : Bool) → suc n ≤ pick (not b) (suc (first_at (λ k. f (suc k)) n p)) 0 → (n ≤ first_at (λ k. f (suc k)) n p → tree_of (up_to (λ k. f (suc k)) n) p ≡ new_tree)
        → pick b (f 0).tree (tree_of (up_to (λ k. f (suc k)) n) p) ≡ new_tree
    go true h ih = absurd (omega arith)
    go false h ih = ih (omega arith)

-- ---- words of the segment table, as the trees that begin there

module _ (l : Lent) where
  abbrev pub tree_there : ℕ → Tree
  tree_there b = tree_in l.runs l.views l.pool (tree_at l.segments b)

  pub trees_renamed : (xs : List (Ranged ℕ)) → ranged_trees l xs ≡ map (renamed tree_there) xs
  unfolding ranged_trees
  trees_renamed [] = refl
  trees_renamed (x ∷ xs) = ap (λ (z : List (Ranged Tree)). renamed tree_there x ∷ z) (trees_renamed xs)

  as_renamed : (b : ℕ) (q : Bounding) → map (renamed tree_there) (ranged_as b q) ≡ ranged_as (tree_there b) q
  as_renamed b none = refl
  as_renamed b (spans r) = refl

  trees_entered : (done xs : List (Ranged ℕ)) (b : ℕ) (q : Bounding) → xs ≡ arranged_from done (ranged_as b q) → ranged_trees l xs ≡ arranged_from (ranged_trees l done) (ranged_as (tree_there b) q)
  trees_entered done xs b q e =
      trees_renamed xs
      ∙ ap (map (renamed tree_there)) e
      ∙ sym (from_renamed tree_there done (ranged_as b q))
      ∙ rw (← as_renamed b q, trees_renamed done)

  module _ (w : Window) (p : List ℕ) (n j : ℕ) (held : n ≡ held_of w (length l.segments / 12)) (e : j ≡ index_of (prefixes_in l.segments l.pool w) p) where
    abbrev tree : Tree
    tree = tree_of (segments_in l.segments l.runs l.views l.pool w) p

    abbrev segments_there : ℕ → Segment
    segments_there k = segment_in l.runs l.views l.pool (segment_at l.segments (w.first + k))

    index_is : j ≡ first_at segments_there (held_of w (length l.segments / 12)) p
    unfolding index_of prefixes_in segment_in
    index_is = e

    pub share_found : (done xs : List (Ranged ℕ)) → j < n → xs ≡ arranged_from done (ranged_as ((w.first + j) * 12 + 2) (bounding_of (tree_views (tree_there ((w.first + j) * 12 + 2)))))
        → ranged_trees l xs ≡ arranged_from (ranged_trees l done) (ranged_as tree (bounding_of (tree_views tree)))
    unfolding segments_in segment_in segment_at
    share_found done xs h d =
        let s : tree ≡ tree_there ((w.first + j) * 12 + 2) = tree_found segments_there (held_of w (length l.segments / 12)) p (omega (arith, held, index_is)) ∙ ap (λ (k : ℕ). (segments_there k).tree) (sym index_is) in
        trees_entered done xs ((w.first + j) * 12 + 2) (bounding_of (tree_views (tree_there ((w.first + j) * 12 + 2)))) d
        ∙ ap (λ (z : Tree). arranged_from (ranged_trees l done) (ranged_as z (bounding_of (tree_views z)))) (sym s)

    pub share_none : (done : List (Ranged ℕ)) → n ≤ j → ranged_trees l done ≡ arranged_from (ranged_trees l done) (ranged_as tree (bounding_of (tree_views tree)))
    unfolding segments_in arranged_from bounding_from
    share_none done h =
        let s : tree ≡ new_tree = tree_none segments_there (held_of w (length l.segments / 12)) p (omega (arith, held, index_is)) in
        ap (λ (z : Tree). arranged_from (ranged_trees l done) (ranged_as z (bounding_of (tree_views z)))) (sym s)

  pub trees_up_to : (t : List ℕ) (p : List ℕ) (g : ℕ → ℕ) (n : ℕ) → trees_at_in l t p (up_to g n) ≡ up_to (λ i. tree_of (segments_in l.segments l.runs l.views l.pool (window_at t (g i + 10))) p) n
  unfolding trees_at_in
  trees_up_to t p g zero = refl
  trees_up_to t p g (suc n) = snoc (up_to g n) (g n) ∙ ap (λ (z : List Tree). z ++ (tree_of (segments_in l.segments l.runs l.views l.pool (window_at t (g n + 10))) p ∷ [])) (trees_up_to t p g n)
    where
      snoc : (bs : List ℕ) (b : ℕ) → trees_at_in l t p (bs ++ (b ∷ [])) ≡ trees_at_in l t p bs ++ (tree_of (segments_in l.segments l.runs l.views l.pool (window_at t (b + 10))) p ∷ [])
      snoc [] b = refl
      snoc (c ∷ bs) b = ap (λ (z : List Tree). tree_of (segments_in l.segments l.runs l.views l.pool (window_at t (c + 10))) p ∷ z) (snoc bs b)

  pub trees_none : ranged_trees l [] ≡ []
  unfolding ranged_trees
  trees_none = refl

-- the segments of a source that begins at word b
pub share_at : (segments runs views pool t p : List ℕ) (b : ℕ) (w : Window) (done xs : List (Ranged Tree)) → w ≡ window_at t (b + 10)
    → xs ≡ arranged_from done (ranged_as (tree_of (segments_in segments runs views pool w) p) (bounding_of (tree_views (tree_of (segments_in segments runs views pool w) p))))
    → xs ≡ arranged_from done (ranged_as (tree_of (segments_in segments runs views pool (window_at t (b + 10))) p) (bounding_of (tree_views (tree_of (segments_in segments runs views pool (window_at t (b + 10))) p))))
share_at segments runs views pool t p b w done xs e h = rw e at h
