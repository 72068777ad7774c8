-- What is left of trees and segments, added. Assumes nothing.
use Rattle.std.specs.Prelude.{None, Option, Some}
use Prim.Native.Nat.{ℕ, zero, suc, ◌+◌, ◌/◌, ◌<◌}
use mathlib.Core.Path.{◌≡◌, refl, sym, ap, ◌∙◌}
use mathlib.Core.Bool.{Bool, true, false}
use mathlib.Core.List.{List, []}
use native.Mathlib.Omega.{arith}
use native.Mathlib.Decide.{dec_lt}
use lib.ListN.{length}
use borrow.Author.Tests.{le-leb}
use Rattle.keys.specs.Pick.{pick}
use Rattle.keys.specs.Pool.{part_of}
use Rattle.tables.specs.Layout.{up_to}
use Rattle.tables.specs.Window.{held_of}
use Rattle.tables.specs.declared.Window.{Window}
use Rattle.records.specs.Model.{Tree, Segment}
use Rattle.records.specs.Row.{segment_at}
use Rattle.records.specs.Decode.{bytes_in, tree_in, segment_in, segments_in, name_in}
use Rattle.records.specs.Fill.{empty, plus, sum, fits, bytes, key_fill, name_keys, tree_fill, segment_fill}
use Rattle.records.specs.declared.Fill.{Fill}
use Rattle.records.specs.declared.Limits.{Limits}
use Rattle.records.specs.declared.Place.{Place}
use Rattle.records.specs.declared.SegmentRow.{SegmentRow}
use Rattle.records.specs.declared.TreeRow.{TreeRow}
use Rattle.records.proofs.Sums.{fill_same, plus_empty, empty_plus}
use Rattle.measure.specs.Tests.{all_below}
use Rattle.measure.specs.Placed.{tree_placed}
use Rattle.measure.specs.Walk.{add_of, segment_row_walk}
use Rattle.measure.proofs.Steps.{step_then}
use Rattle.measure.proofs.Rows.{step_key, tree_step, tree_short}
use Rattle.segments.proofs.Places.{and_both}
use Rattle.project_views.specs.Reach.{reach_of}
use Rattle.project_views.specs.Shown.{tree_shown}
use Rattle.project_views.specs.declared.Reach.{Reach}
use Rattle.project_views.proofs.Many.{all, sum_many}
use Rattle.project_views.proofs.Summed.{added_none, added_is, added_broken, added_on}
use Rattle.project_ranges.specs.Config.{Config}
use Rattle.project_ranges.specs.Action.{Action, action_of}
use Rattle.project_ranges.specs.Args.{action_in}
use Rattle.project_ranges.specs.declared.SegmentAction.{SegmentAction}
use Rattle.project_ranges.specs.declared.SegmentAction.TheVariants.{Drop, Project, PassThrough}
use Rattle.project_lay.specs.After.{tree_after, segment_after, segments_after}
use Rattle.project_lay.specs.Steps.{stays_by, piece_at, tree_kept, rows_kept}
use Rattle.project_lay.proofs.After.{after_gone, after_kept, pieces_after, no_prefix}

-- ---- a tree

-- one that is passed on, walked as that of a segment without a prefix
pub passed_added : (lim : Limits) (views runs pool : List ℕ) (t : TreeRow) (c : Fill) (q : Option Fill) → tree_kept lim views runs pool t ≡ true → fits c lim.fill ≡ true
    → q ≡ segment_row_walk lim views runs (length pool) (record { prefix = record { at = 0; len = 0 }; tree = t }) c → q ≡ add_of lim.fill c (tree_fill (tree_in runs views pool t))
unfolding tree_kept segment_row_walk add_of
passed_added lim views runs pool t c q h k e =
    let p : Place = record { at = 0; len = 0 } in
    let w = and_both (tree_placed (length pool) views runs t) (tree_short lim (tree_in runs views pool t)) h in
    let x = tree_fill (tree_in runs views pool t) in
    let g : plus (key_fill (bytes_in pool p)) x ≡ x = rw (no_prefix pool) (empty_plus x) in
    e
    ∙ (step_then (step_key lim.fill lim.prefix pool p) (tree_step lim pool views runs t)).gives c k
    ∙ rw (le-leb (0 + 0) (length pool) (omega arith), w.0, w.1, no_prefix pool, le-leb 0 lim.prefix (omega arith))
    (ap (λ (f : Fill). pick (fits (plus c f) lim.fill) (Some (plus c f)) None) (empty_plus x))

module _ (most : Fill) (pool : List ℕ) (a : SegmentAction) (t : Tree) (c : Fill) where
  pub tree_dropped : fits c most ≡ true → a ≡ Drop → Some c ≡ add_of most c (tree_fill (tree_after (action_in pool a) t))
  unfolding tree_fill
  tree_dropped h e = rw e (added_none most c h ∙ ap (add_of most c) (sym (plus_empty empty)))

  module _ (q : Option Fill) where
    pub tree_shown_lem : (r : Reach) → a ≡ Project r → q ≡ add_of most c (tree_fill (tree_shown (reach_of pool r) t)) → q ≡ add_of most c (tree_fill (tree_after (action_in pool a) t))
    tree_shown_lem r e h = rw e h

    pub tree_passed : a ≡ PassThrough → q ≡ add_of most c (tree_fill t) → q ≡ add_of most c (tree_fill (tree_after (action_in pool a) t))
    tree_passed e h = rw e h

-- ---- a segment: its tree, then its row and its prefix

module _ (most : Fill) (a : Action) (s : Segment) (c : Fill) (b : Bool) (e : b ≡ stays_by a s.tree) where
  pub segment_gone : fits c most ≡ true → b ≡ false → Some c ≡ add_of most c (sum segment_fill (segment_after a s))
  segment_gone h n = rw (after_gone a s b e n) (added_none most c h)

  abbrev front : ℕ → Fill
  front n = record { segments = 1; views = 0; runs = 0; borrows = 0; ids = 0; bytes = n }

  module _ (h : b ≡ true) (u : Option Fill) (p : u ≡ add_of most c (tree_fill (tree_after a s.tree))) where
    parts : plus (tree_fill (tree_after a s.tree)) (front (length s.prefix)) ≡ sum segment_fill (segment_after a s)
    unfolding segment_fill
    parts = rw (after_kept a s b e h) (fill_same (omega arith))

    pub segment_broken : u ≡ None → None ≡ add_of most c (sum segment_fill (segment_after a s))
    segment_broken k = added_broken most c (tree_fill (tree_after a s.tree)) (front (length s.prefix)) (sum segment_fill (segment_after a s)) parts u p k

    pub segment_added : (d : Fill) (k : List ℕ) (q : Option Fill) → u ≡ Some d → k ≡ s.prefix → q ≡ add_of most d (front (length k)) → q ≡ add_of most c (sum segment_fill (segment_after a s))
    segment_added d k q g i j =
        added_on most c (tree_fill (tree_after a s.tree)) (front (length s.prefix)) (sum segment_fill (segment_after a s)) parts u d q p g (j ∙ ap (λ (l : List ℕ). add_of most d (front (length l))) i)

-- ---- a row

-- what is left of the segment that is row i, by what is resolved for its row
pub piece_is : (pool : List ℕ) (c : Config) (place : ℕ) (s x : SegmentRow) (runs views : List ℕ) (a : SegmentAction) → s ≡ x → action_in pool a ≡ action_of c place (bytes_in pool s.prefix)
    → segment_after (action_in pool a) (segment_in runs views pool s) ≡ piece_at c place (segment_in runs views pool x)
unfolding segment_in
piece_is pool c place s x runs views a e h = rw (h, e)

below_at : (p : ℕ → Bool) (n k : ℕ) → k < n → all_below p n ≡ true → p k ≡ true
below_at p zero k h e = absurd (omega arith)
below_at p (suc n) k h e =
    let w = and_both (all_below p n) (p n) e in
    elim (dec_lt k n) [ yes l ↦ below_at p n k l w.0 | no l ↦ (let z : k ≡ n = omega arith in rw z w.1) ]

pub row_kept : (lim : Limits) (rows views runs pool : List ℕ) (w : Window) (n k : ℕ) → n ≡ held_of w (length rows / 12) → rows_kept lim rows views runs pool w ≡ true → k < n
    → tree_kept lim views runs pool (segment_at rows (w.first + k)).tree ≡ true
unfolding rows_kept
row_kept lim rows views runs pool w n k e h l =
    below_at (λ i. tree_kept lim views runs pool (segment_at rows (w.first + i)).tree) n k l (rw (← e) at h)

-- ---- the rows of a window

abbrev pub piece_in : List ℕ → List ℕ → List ℕ → List ℕ → Config → ℕ → ℕ → List Segment
piece_in rows runs views pool c first k = piece_at c (k + 1) (segment_in runs views pool (segment_at rows (first + k)))

-- what is left of them, and piece by piece
abbrev pub left : List ℕ → List ℕ → List ℕ → List ℕ → Window → Config → List Segment
left rows runs views pool w c = segments_after c 1 (segments_in rows runs views pool w)

abbrev pub each : List ℕ → List ℕ → List ℕ → List ℕ → Window → Config → ℕ → List (List Segment)
each rows runs views pool w c n = up_to (piece_in rows runs views pool c w.first) n

module _ (rows runs views pool : List ℕ) (w : Window) (c : Config) (n : ℕ) (e : n ≡ held_of w (length rows / 12)) where
  pub left_all : left rows runs views pool w c ≡ all (each rows runs views pool w c n)
  unfolding segments_in
  left_all =
      rw (← e)
      (pieces_after c 1 (λ k. segment_in runs views pool (segment_at rows (w.first + k))) n
      ∙ ap (λ (f : ℕ → List Segment). all (up_to f n)) (λ i k. piece_at c (place k i) (segment_in runs views pool (segment_at rows (w.first + k)))))
    where
      place : (k : ℕ) → 1 + k ≡ k + 1
      place k = omega arith

  pub left_fill : sum (sum segment_fill) (each rows runs views pool w c n) ≡ sum segment_fill (left rows runs views pool w c)
  left_fill = sum_many segment_fill (each rows runs views pool w c n) ∙ ap (sum segment_fill) (sym left_all)

-- ---- the name

module _ (most : Fill) (pool : List ℕ) (n : Option Place) (c : Fill) where
  pub name_none : fits c most ≡ true → n ≡ None → Some c ≡ add_of most c (sum key_fill (name_keys (name_in pool n)))
  name_none h e = rw e (added_none most c h)

  pub name_added : (p : Place) (k : List ℕ) (q : Option Fill) → n ≡ Some p → k ≡ bytes_in pool p → q ≡ add_of most c (bytes (length k)) → q ≡ add_of most c (sum key_fill (name_keys (name_in pool n)))
  name_added p k q e h g = rw e (g ∙ ap (λ (l : List ℕ). add_of most c (key_fill l)) h ∙ ap (add_of most c) (sym (plus_empty (key_fill (bytes_in pool p)))))

-- ---- the whole: the tree, the segments, the name

module _ (most : Fill) (t s n : Fill) (u : Option Fill) (p : u ≡ add_of most empty t) where
  pub body_broken : u ≡ None → None ≡ add_of most empty (plus t (plus s n))
  body_broken h = added_broken most empty t (plus s n) (plus t (plus s n)) refl u p h

  module _ (d : Fill) (h : u ≡ Some d) where
    pub body_fits : fits d most ≡ true
    body_fits = (added_is most empty t d (sym p ∙ h)).1

    module _ (v : Option Fill) (g : v ≡ add_of most d s) where
      pub body_broken_late : v ≡ None → None ≡ add_of most empty (plus t (plus s n))
      body_broken_late k = added_on most empty t (plus s n) (plus t (plus s n)) refl u d None p h (added_broken most d s n (plus s n) refl v g k)

      module _ (e : Fill) (k : v ≡ Some e) where
        pub body_fits_late : fits e most ≡ true
        body_fits_late = (added_is most d s e (sym g ∙ k)).1

        pub body_added : (q : Option Fill) → q ≡ add_of most e n → q ≡ add_of most empty (plus t (plus s n))
        body_added q i = added_on most empty t (plus s n) (plus t (plus s n)) refl u d q p h (added_on most d s n (plus s n) refl v e q g k i)

-- the tree's action, resolved without a prefix
pub tree_is : (pool : List ℕ) (c : Config) (a : SegmentAction) (t : Tree) → action_in pool a ≡ action_of c 0 (part_of pool 0 0) → tree_after (action_in pool a) t ≡ tree_after (action_of c 0 []) t
tree_is pool c a t h = rw (h, no_prefix pool)

pub tree_added_as : (most : Fill) (pool : List ℕ) (c : Config) (a : SegmentAction) (t : Tree) (u : Option Fill) → action_in pool a ≡ action_of c 0 (part_of pool 0 0)
    → u ≡ add_of most empty (tree_fill (tree_after (action_in pool a) t)) → u ≡ add_of most empty (tree_fill (tree_after (action_of c 0 []) t))
tree_added_as most pool c a t u h e = e ∙ ap (λ (x : Tree). add_of most empty (tree_fill x)) (tree_is pool c a t h)
