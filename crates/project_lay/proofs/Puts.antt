-- What is left of trees and segments, laid. Assumes nothing.
use Rattle.std.specs.Prelude.{None}
use Prim.Native.Nat.{ℕ, ◌+◌, ◌-◌, ◌*◌, ◌/◌, ◌≤◌}
use mathlib.Core.Path.{◌≡◌, sym, ap, ◌∙◌}
use mathlib.Core.Bool.{Bool, true, false}
use mathlib.Core.List.{List, append-nil}
use native.Mathlib.Omega.{arith}
use lib.ListN.{length}
use Rattle.tables.specs.Layout.{write, joined}
use Rattle.tables.specs.Window.{held_of}
use Rattle.tables.specs.declared.Window.{Window}
use Rattle.tables.proofs.Writes.{write_none}
use Rattle.records.specs.Model.{Tree, Segment}
use Rattle.records.specs.New.{new_tree}
use Rattle.records.specs.Words.{segment_words}
use Rattle.records.specs.Fill.{plus, sum, tree_fill, segment_fill}
use Rattle.records.specs.Layout.{views_laid, runs_laid, runs_views_laid, tree_row, tree_runs_laid, tree_views_laid, tree_bytes, segment_row, past_prefix, segment_bytes, segments_laid, segments_runs_laid, segments_views_laid}
use Rattle.records.specs.declared.Fill.{Fill}
use Rattle.records.specs.declared.TreeRow.{TreeRow}
use Rattle.records.proofs.Sums.{plus_empty}
use Rattle.records.proofs.Laid.{Column, column, pool as bytes}
use Rattle.records.proofs.Columns.{segment_rows, segment_runs, segment_views, segment_bytes_long}
use Rattle.emit.specs.declared.LaidTree.{LaidTree}
use Rattle.emit.proofs.Laid.{plain, joined_long}
use Rattle.emit.proofs.Rows.{tree_laid}
use Rattle.project_views.specs.Reach.{reach_of}
use Rattle.project_views.specs.Shown.{tree_shown}
use Rattle.project_views.specs.declared.Reach.{Reach}
use Rattle.project_views.proofs.Many.{all, many, joined_many, column_many}
use Rattle.project_ranges.specs.Config.{Config}
use Rattle.project_ranges.specs.Action.{Action}
use Rattle.project_ranges.specs.Args.{action_in}
use Rattle.project_ranges.specs.declared.SegmentAction.{SegmentAction}
use Rattle.project_ranges.specs.declared.SegmentAction.TheVariants.{Drop, Project, PassThrough}
use Rattle.project_lay.specs.After.{tree_after, segment_after}
use Rattle.project_lay.specs.Steps.{stays_by, kept_as}
use Rattle.project_lay.proofs.After.{after_gone, after_kept}
use Rattle.project_lay.proofs.Adds.{left, each, left_all, left_fill}

-- ---- a tree laid from c on: its row and the cursor past it, its runs' rows, its views' rows and its bytes

abbrev pub RoomTree : Fill → ℕ → ℕ → ℕ → Tree → Type 0
RoomTree c l m n t = ((c.runs + (tree_fill t).runs) * 3 ≤ l) × (((c.views + (tree_fill t).views) * 16 ≤ m) × (c.bytes + (tree_fill t).bytes ≤ n))

abbrev pub TreeLaid : Fill → LaidTree → List ℕ → List ℕ → List ℕ → List ℕ → List ℕ → List ℕ → Tree → Type 0
TreeLaid c q b b' d d' e e' t =
    (q ≡ record { tree = tree_row c t; past = plus c (tree_fill t) })
    × ((b' ≡ write b (c.runs * 3) (tree_runs_laid c t)) × ((d' ≡ write d (c.views * 16) (tree_views_laid c t)) × (e' ≡ write e c.bytes (tree_bytes t))))

new_laid : (c : Fill) (b d e : List ℕ) (r : TreeRow)
    → r ≡ record { view = None; sst = None; l0 = record { first = c.views; count = c.views - c.views }; compacted = record { first = c.runs; count = c.runs - c.runs } }
    → TreeLaid c (record { tree = r; past = c }) b b d d e e new_tree
unfolding tree_runs_laid tree_views_laid tree_bytes views_laid runs_laid runs_views_laid
new_laid c b d e r h = (
  tree_laid c new_tree c (sym (plus_empty c)) c (sym (plus_empty c)) r h,
  (sym (write_none b (c.runs * 3)), (sym (write_none d (c.views * 16)), sym (write_none e c.bytes))),
)

module _ (pool : List ℕ) (a : SegmentAction) (t : Tree) (c : Fill) where
  pub put_dropped : (b d e : List ℕ) (r : TreeRow) → a ≡ Drop
      → r ≡ record { view = None; sst = None; l0 = record { first = c.views; count = c.views - c.views }; compacted = record { first = c.runs; count = c.runs - c.runs } }
      → TreeLaid c (record { tree = r; past = c }) b b d d e e (tree_after (action_in pool a) t)
  put_dropped b d e r k h = rw k (new_laid c b d e r h)

  module _ (l m n : ℕ) (h : RoomTree c l m n (tree_after (action_in pool a) t)) where
    pub tree_room_shown : (r : Reach) → a ≡ Project r → RoomTree c l m n (tree_shown (reach_of pool r) t)
    tree_room_shown r k = rw k at h

    pub tree_room_passed : a ≡ PassThrough → RoomTree c l m n t
    tree_room_passed k = rw k at h

  module _ (q : LaidTree) (b b' d d' e e' : List ℕ) where
    pub put_shown : (r : Reach) → a ≡ Project r → TreeLaid c q b b' d d' e e' (tree_shown (reach_of pool r) t) → TreeLaid c q b b' d d' e e' (tree_after (action_in pool a) t)
    put_shown r k h = rw k h

    pub put_passed : a ≡ PassThrough → TreeLaid c q b b' d d' e e' t → TreeLaid c q b b' d d' e e' (tree_after (action_in pool a) t)
    put_passed k h = rw k h

-- ---- some segments laid from c on

abbrev pub RoomSegments : Fill → ℕ → ℕ → ℕ → ℕ → List Segment → Type 0
RoomSegments c k l m n ss =
    ((c.segments + (sum segment_fill ss).segments) * 12 ≤ k)
    × (((c.runs + (sum segment_fill ss).runs) * 3 ≤ l) × (((c.views + (sum segment_fill ss).views) * 16 ≤ m) × (c.bytes + (sum segment_fill ss).bytes ≤ n)))

abbrev pub SegmentsLaid : Fill → Fill → List ℕ → List ℕ → List ℕ → List ℕ → List ℕ → List ℕ → List ℕ → List ℕ → List Segment → Type 0
SegmentsLaid c q a a' b b' d d' e e' ss =
    (q ≡ plus c (sum segment_fill ss))
    × ((a' ≡ write a (c.segments * 12) (segments_laid c ss))
    × ((b' ≡ write b (c.runs * 3) (segments_runs_laid c ss)) × ((d' ≡ write d (c.views * 16) (segments_views_laid c ss)) × (e' ≡ write e c.bytes (joined segment_bytes ss)))))

-- one of them
abbrev pub RoomSegment : Fill → ℕ → ℕ → ℕ → ℕ → Segment → Type 0
RoomSegment c k l m n s =
    ((c.segments + (segment_fill s).segments) * 12 ≤ k) × (((c.runs + (segment_fill s).runs) * 3 ≤ l) × (((c.views + (segment_fill s).views) * 16 ≤ m) × (c.bytes + (segment_fill s).bytes ≤ n)))

abbrev pub SegmentLaid : Fill → Fill → List ℕ → List ℕ → List ℕ → List ℕ → List ℕ → List ℕ → List ℕ → List ℕ → Segment → Type 0
SegmentLaid c q a a' b b' d d' e e' s =
    (q ≡ plus c (segment_fill s))
    × ((a' ≡ write a (c.segments * 12) (segment_words (segment_row c s)))
    × ((b' ≡ write b (c.runs * 3) (tree_runs_laid (past_prefix c s) s.tree))
    × ((d' ≡ write d (c.views * 16) (tree_views_laid (past_prefix c s) s.tree)) × (e' ≡ write e c.bytes (segment_bytes s)))))

module _ (x : Action) (s : Segment) (b : Bool) (e : b ≡ stays_by x s.tree) (c : Fill) where
  pub kept_room : (k l m n : ℕ) → b ≡ true → RoomSegments c k l m n (segment_after x s) → RoomSegment c k l m n (kept_as x s)
  kept_room k l m n t h = let r = rw (after_kept x s b e t) at h in (omega (arith, r.0), (omega (arith, r.1.0), (omega (arith, r.1.1.0), omega (arith, r.1.1.1))))

  pub put_kept : (q : Fill) (o o' r r' v v' p p' : List ℕ) → b ≡ true → SegmentLaid c q o o' r r' v v' p p' (kept_as x s) → SegmentsLaid c q o o' r r' v v' p p' (segment_after x s)
  unfolding segments_laid segments_runs_laid segments_views_laid
  put_kept q o o' r r' v v' p p' t h =
      let g = kept_as x s in
      rw (after_kept x s b e t) (
        h.0 ∙ ap (λ (z : Fill). plus c z) (sym (plus_empty (segment_fill g))),
        (
          rw (append-nil (segment_words (segment_row c g))) h.1.0,
          (
            rw (append-nil (tree_runs_laid (past_prefix c g) g.tree)) h.1.1.0,
            (rw (append-nil (tree_views_laid (past_prefix c g) g.tree)) h.1.1.1.0, rw (append-nil (segment_bytes g)) h.1.1.1.1),
          ),
        ),
      )

  pub put_gone : (o r v p : List ℕ) → b ≡ false → SegmentsLaid c c o o r r v v p p (segment_after x s)
  unfolding segments_laid segments_runs_laid segments_views_laid
  put_gone o r v p t =
      rw (after_gone x s b e t) (sym (plus_empty c), (sym (write_none o (c.segments * 12)), (sym (write_none r (c.runs * 3)), (sym (write_none v (c.views * 16)), sym (write_none p c.bytes)))))

-- the same segments by another name
module _ (xs ys : List Segment) (i : xs ≡ ys) (c : Fill) where
  pub segments_room_as : (k l m n : ℕ) → RoomSegments c k l m n ys → RoomSegments c k l m n xs
  segments_room_as k l m n h = rw i h

  pub segments_laid_as : (q : Fill) (o o' r r' v v' p p' : List ℕ) → SegmentsLaid c q o o' r r' v v' p p' xs → SegmentsLaid c q o o' r r' v v' p p' ys
  segments_laid_as q o o' r r' v v' p p' h = rw (← i) h

-- ---- a loop over the rows of a window

abbrev pub piece_rows : Column (sum segment_fill)
piece_rows = many segment_rows

abbrev pub piece_runs : Column (sum segment_fill)
piece_runs = many segment_runs

abbrev pub piece_views : Column (sum segment_fill)
piece_views = many segment_views

abbrev pub piece_pool : Column (sum segment_fill)
piece_pool = plain bytes (joined segment_bytes) (joined_long segment_fill bytes segment_bytes segment_bytes_long)

pub left_laid : (rows runs views pool : List ℕ) (w : Window) (x : Config) (n : ℕ) → n ≡ held_of w (length rows / 12) → (c q : Fill) (o o' r r' v v' p p' : List ℕ)
    → q ≡ plus c (sum (sum segment_fill) (each rows runs views pool w x n)) → o' ≡ write o (c.segments * 12) (column piece_rows c (each rows runs views pool w x n))
    → r' ≡ write r (c.runs * 3) (column piece_runs c (each rows runs views pool w x n)) → v' ≡ write v (c.views * 16) (column piece_views c (each rows runs views pool w x n))
    → p' ≡ write p c.bytes (joined (joined segment_bytes) (each rows runs views pool w x n)) → SegmentsLaid c q o o' r r' v v' p p' (left rows runs views pool w x)
unfolding segments_laid segments_runs_laid segments_views_laid
left_laid rows runs views pool w x n i c q o o' r r' v v' p p' hq ho hr hv hp =
    let ones = each rows runs views pool w x n in
    let e : all ones ≡ left rows runs views pool w x = sym (left_all rows runs views pool w x n i) in (
      hq ∙ ap (plus c) (left_fill rows runs views pool w x n i),
      (
        ho ∙ ap (write o (c.segments * 12)) (column_many segment_rows c ones ∙ ap (column segment_rows c) e),
        (
          hr ∙ ap (write r (c.runs * 3)) (column_many segment_runs c ones ∙ ap (column segment_runs c) e),
          (hv ∙ ap (write v (c.views * 16)) (column_many segment_views c ones ∙ ap (column segment_views c) e), hp ∙ ap (write p c.bytes) (joined_many segment_bytes ones ∙ ap (joined segment_bytes) e)),
        ),
      ),
    )

-- the same tree by another name
module _ (x y : Tree) (i : x ≡ y) (c : Fill) where
  pub tree_room_as : (l m n : ℕ) → RoomTree c l m n y → RoomTree c l m n x
  tree_room_as l m n h = rw i h

  pub tree_laid_as : (q : LaidTree) (b b' d d' e e' : List ℕ) → TreeLaid c q b b' d d' e e' x → TreeLaid c q b b' d d' e e' y
  tree_laid_as q b b' d d' e e' h = rw (← i) h
