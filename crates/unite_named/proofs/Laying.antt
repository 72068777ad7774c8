-- Numbered segments laid, piece by piece. Assumes nothing.
use Prim.Native.Nat.{ℕ, zero, suc, ◌+◌, ◌-◌, ◌*◌, ◌≤◌, ◌<◌}
use mathlib.Core.Path.{◌≡◌, refl, sym, ap, ◌∙◌}
use mathlib.Core.List.{List, [], ◌∷◌, ◌++◌, append-nil}
use native.Mathlib.Omega.{arith}
use lib.ListN.{length}
use Rattle.tables.specs.Layout.{write, up_to, joined}
use Rattle.tables.proofs.Writes.{write_none}
use Rattle.tables.proofs.Joined.{up_to_more, joined_append}
use Rattle.records.specs.Model.{Segment}
use Rattle.records.specs.Words.{segment_words}
use Rattle.records.specs.Fill.{plus, sum, tree_fill, segment_fill}
use Rattle.records.specs.Layout.{tree_row, tree_runs_laid, tree_views_laid, segment_row, past_prefix, segment_bytes, segments_laid, segments_runs_laid, segments_views_laid}
use Rattle.records.specs.declared.Fill.{Fill}
use Rattle.records.proofs.Sums.{plus_empty, sum_append}
use Rattle.records.proofs.Laid.{Column, column, pool as bytes}
use Rattle.records.proofs.Columns.{segment_fill_lem, segment_rows, segment_runs, segment_views, segment_bytes_long}
use Rattle.emit.specs.declared.LaidTree.{LaidTree}
use Rattle.emit.proofs.Laid.{Walk, plain, joined_long}
use Rattle.project_views.proofs.Many.{all, many, sum_many, joined_many, column_many}
use Rattle.unite_trees.specs.Joined.{numbered_tree, numbered_segments}
use Rattle.unite_trees.proofs.Numbers.{numbered_tree_fill, numbered_segments_fill}
use Rattle.unite_named.specs.Steps.{numbered_as}

-- ---- some segments laid from c on: the cursor past them, their rows, their runs', their views' and their bytes

abbrev pub RoomSegments : Fill → ℕ → ℕ → ℕ → ℕ → List Segment → Type 0
RoomSegments c k l m n ss =
    ((c.segments + (sum segment_fill ss).segments) * 12 ≤ k)
    × (((c.runs + (sum segment_fill ss).runs) * 3 ≤ l) × (((c.views + (sum segment_fill ss).views) * 16 ≤ m) × (c.bytes + (sum segment_fill ss).bytes ≤ n)))

abbrev pub RoomSegment : Fill → ℕ → ℕ → ℕ → ℕ → Segment → Type 0
RoomSegment c k l m n s =
    ((c.segments + (segment_fill s).segments) * 12 ≤ k) × (((c.runs + (segment_fill s).runs) * 3 ≤ l) × (((c.views + (segment_fill s).views) * 16 ≤ m) × (c.bytes + (segment_fill s).bytes ≤ n)))

abbrev pub SegmentLaid : Fill → Fill → List ℕ → List ℕ → List ℕ → List ℕ → List ℕ → List ℕ → List ℕ → List ℕ → Segment → Type 0
SegmentLaid c q a a' b b' d d' e e' s =
    (q ≡ plus c (segment_fill s))
    × ((a' ≡ write a (c.segments * 12) (segment_words (segment_row c s)))
    × ((b' ≡ write b (c.runs * 3) (tree_runs_laid (past_prefix c s) s.tree))
    × ((d' ≡ write d (c.views * 16) (tree_views_laid (past_prefix c s) s.tree)) × (e' ≡ write e c.bytes (segment_bytes s)))))

-- ---- one segment

numbered_one_fill : (left : ℕ) (s : Segment) → segment_fill (numbered_as left s) ≡ segment_fill s
unfolding segment_fill
numbered_one_fill left s = rw (numbered_tree_fill left s.tree)

module _ (left : ℕ) (s : Segment) (c : Fill) where
  -- a number takes no room
  pub plain_room : (k l m n : ℕ) → RoomSegment c k l m n (numbered_as left s) → RoomSegment c k l m n s
  plain_room k l m n h = rw (numbered_one_fill left s) at h

  pub numbered_past : (a : Fill) (q : LaidTree) → q ≡ record { tree = tree_row a (numbered_tree left s.tree); past = plus a (tree_fill s.tree) }
      → q ≡ record { tree = tree_row a (numbered_as left s).tree; past = plus a (tree_fill (numbered_as left s).tree) }
  numbered_past a q h = h ∙ ap (λ (f : Fill). record { tree = tree_row a (numbered_tree left s.tree); past = plus a f }) (sym (numbered_tree_fill left s.tree))

-- ---- a list of none or one, numbered

module _ (left : ℕ) (xs : List Segment) (c : Fill) where
  module _ (o r v p : List ℕ) where
    pub laid_none : xs ≡ [] → (c ≡ plus c (sum segment_fill (numbered_segments left xs)))
        × ((o ≡ write o (c.segments * 12) (segments_laid c (numbered_segments left xs)))
        × ((r ≡ write r (c.runs * 3) (segments_runs_laid c (numbered_segments left xs)))
        × ((v ≡ write v (c.views * 16) (segments_views_laid c (numbered_segments left xs))) × (p ≡ write p c.bytes (joined segment_bytes (numbered_segments left xs))))))
    unfolding numbered_segments segments_laid segments_runs_laid segments_views_laid
    laid_none e =
        rw e (sym (plus_empty c), (sym (write_none o (c.segments * 12)), (sym (write_none r (c.runs * 3)), (sym (write_none v (c.views * 16)), sym (write_none p c.bytes)))))

  module _ (s : Segment) (e : xs ≡ s ∷ []) where
    numbered_single : numbered_segments left xs ≡ numbered_as left s ∷ []
    unfolding numbered_segments
    numbered_single = rw e

    pub one_room : (k l m n : ℕ) → RoomSegments c k l m n (numbered_segments left xs) → RoomSegment c k l m n (numbered_as left s)
    one_room k l m n h = let r = rw numbered_single at h in (omega (arith, r.0), (omega (arith, r.1.0), (omega (arith, r.1.1.0), omega (arith, r.1.1.1))))

    pub one_left : (sum segment_fill xs).runs ≤ left → (tree_fill s.tree).runs ≤ left
    unfolding segment_fill
    one_left h = let r = rw e at h in omega (arith, r)

    pub laid_one : (q : Fill) (o o' r r' v v' p p' : List ℕ) → SegmentLaid c q o o' r r' v v' p p' (numbered_as left s)
        → (q ≡ plus c (sum segment_fill (numbered_segments left xs)))
        × ((o' ≡ write o (c.segments * 12) (segments_laid c (numbered_segments left xs)))
        × ((r' ≡ write r (c.runs * 3) (segments_runs_laid c (numbered_segments left xs)))
        × ((v' ≡ write v (c.views * 16) (segments_views_laid c (numbered_segments left xs))) × (p' ≡ write p c.bytes (joined segment_bytes (numbered_segments left xs))))))
    unfolding segments_laid segments_runs_laid segments_views_laid
    laid_one q o o' r r' v v' p p' h =
        let g = numbered_as left s in
        rw numbered_single (
          h.0 ∙ ap (λ (z : Fill). plus c z) (sym (plus_empty (segment_fill g))),
          (
            rw (append-nil (segment_words (segment_row c g))) h.1.0,
            (
              rw (append-nil (tree_runs_laid (past_prefix c g) g.tree)) h.1.1.0,
              (rw (append-nil (tree_views_laid (past_prefix c g) g.tree)) h.1.1.1.0, rw (append-nil (segment_bytes g)) h.1.1.1.1),
            ),
          ),
        )

-- ---- numbered piece by piece

one_runs : (s : Segment) → (segment_fill s).runs ≡ length s.tree.runs
one_runs s = rw (segment_fill_lem s) (omega arith)

-- those behind others have the numbers that the others leave
pub numbered_segments_append : (left : ℕ) (xs ys : List Segment) → numbered_segments left (xs ++ ys) ≡ numbered_segments left xs ++ numbered_segments (left - (sum segment_fill xs).runs) ys
unfolding numbered_segments
numbered_segments_append left [] ys = let e : left - 0 ≡ left = omega arith in rw e
numbered_segments_append left (x ∷ xs) ys =
    let e : left - length x.tree.runs - (sum segment_fill xs).runs ≡ left - ((segment_fill x).runs + (sum segment_fill xs).runs) = omega (arith, one_runs x) in
    ap (λ (l : List Segment). numbered_as left x ∷ l)
    (numbered_segments_append (left - length x.tree.runs) xs ys ∙ ap (λ (n : ℕ). numbered_segments (left - length x.tree.runs) xs ++ numbered_segments n ys) e)

module _ (left : ℕ) (g : ℕ → List Segment) where
  -- piece k, where those before it have their numbers
  abbrev pub numbered_piece : ℕ → List Segment
  numbered_piece k = numbered_segments (left - (sum segment_fill (all (up_to g k))).runs) (g k)

  numbered_pieces : (n : ℕ) → all (up_to numbered_piece n) ≡ numbered_segments left (all (up_to g n))
  unfolding numbered_segments
  numbered_pieces zero = refl
  numbered_pieces (suc n) =
      joined_append (λ xs. xs) (up_to numbered_piece n) (numbered_piece n ∷ [])
      ∙ rw (append-nil (numbered_piece n), numbered_pieces n, joined_append (λ xs. xs) (up_to g n) (g n ∷ []), append-nil (g n))
      (sym (numbered_segments_append left (all (up_to g n)) (g n)))

  pieces_fill : (n : ℕ) → sum (sum segment_fill) (up_to numbered_piece n) ≡ sum segment_fill (all (up_to g n))
  pieces_fill n = sum_many segment_fill (up_to numbered_piece n) ∙ ap (sum segment_fill) (numbered_pieces n) ∙ numbered_segments_fill left (all (up_to g n))

  -- those of piece k are among those of all
  part_within : (n k : ℕ) → k < n → (sum segment_fill (all (up_to g k))).runs + (sum segment_fill (g k)).runs ≤ (sum segment_fill (all (up_to g n))).runs
  part_within n k h =
      let r = up_to_more g (suc k) n h in
      let e : sum segment_fill (all (up_to g n)) ≡ plus (plus (sum segment_fill (all (up_to g k))) (sum segment_fill (g k))) (sum segment_fill (all r.0)) =
      rw (r.1, joined_append (λ xs. xs) (up_to g (suc k)) r.0, sum_append segment_fill (all (up_to g (suc k))) (all r.0), joined_append (λ xs. xs) (up_to g k) (g k ∷ []), append-nil (g k), sum_append segment_fill (all (up_to g k)) (g k)) in
      omega (arith, ap (λ (f : Fill). f.runs) e)

  module _ (n : ℕ) (c to : Fill) (k : ℕ) (w : Walk (sum segment_fill) numbered_piece n c to k) where
    pub laid_so_far : to.runs ≡ c.runs + (sum segment_fill (all (up_to g k))).runs
    laid_so_far = ap (λ (z : Fill). z.runs) w.past ∙ ap (λ (z : ℕ). c.runs + z) (ap (λ (z : Fill). z.runs) (pieces_fill k))

    pub left_now : left - (to.runs - c.runs) ≡ left - (sum segment_fill (all (up_to g k))).runs
    left_now = let e : to.runs - c.runs ≡ (sum segment_fill (all (up_to g k))).runs = omega (arith, laid_so_far) in rw e

    module _ (ss : List Segment) (i : all (up_to g n) ≡ ss) (h : (sum segment_fill ss).runs ≤ left) (l : k < n) where
      pub left_most : to.runs - c.runs ≤ left
      left_most = omega (arith, laid_so_far, part_within n k l, ap (λ (s : List Segment). (sum segment_fill s).runs) i)

      pub left_enough : (sum segment_fill (g k)).runs ≤ left - (to.runs - c.runs)
      left_enough = omega (arith, laid_so_far, part_within n k l, ap (λ (s : List Segment). (sum segment_fill s).runs) i)

  module _ (n : ℕ) (ss : List Segment) (i : all (up_to g n) ≡ ss) where
    pub named_fill_lem : sum (sum segment_fill) (up_to numbered_piece n) ≡ sum segment_fill ss
    named_fill_lem = pieces_fill n ∙ ap (sum segment_fill) i

    named_all : all (up_to numbered_piece n) ≡ numbered_segments left ss
    named_all = numbered_pieces n ∙ ap (numbered_segments left) i

    module _ (c : Fill) (d d' : List ℕ) where
      pub named_rows : d' ≡ write d (c.segments * 12) (column (many segment_rows) c (up_to numbered_piece n)) → d' ≡ write d (c.segments * 12) (segments_laid c (numbered_segments left ss))
      unfolding segments_laid
      named_rows h = h ∙ ap (write d (c.segments * 12)) (column_many segment_rows c (up_to numbered_piece n) ∙ ap (column segment_rows c) named_all)

      pub named_runs : d' ≡ write d (c.runs * 3) (column (many segment_runs) c (up_to numbered_piece n)) → d' ≡ write d (c.runs * 3) (segments_runs_laid c (numbered_segments left ss))
      unfolding segments_runs_laid
      named_runs h = h ∙ ap (write d (c.runs * 3)) (column_many segment_runs c (up_to numbered_piece n) ∙ ap (column segment_runs c) named_all)

      pub named_views : d' ≡ write d (c.views * 16) (column (many segment_views) c (up_to numbered_piece n)) → d' ≡ write d (c.views * 16) (segments_views_laid c (numbered_segments left ss))
      unfolding segments_views_laid
      named_views h = h ∙ ap (write d (c.views * 16)) (column_many segment_views c (up_to numbered_piece n) ∙ ap (column segment_views c) named_all)

      pub named_bytes : d' ≡ write d c.bytes (joined (joined segment_bytes) (up_to numbered_piece n)) → d' ≡ write d c.bytes (joined segment_bytes (numbered_segments left ss))
      named_bytes h = h ∙ ap (write d c.bytes) (joined_many segment_bytes (up_to numbered_piece n) ∙ ap (joined segment_bytes) named_all)

-- ---- what pieces write into each table

abbrev pub piece_rows : Column (sum segment_fill)
piece_rows = many segment_rows

abbrev pub piece_runs : Column (sum segment_fill)
piece_runs = many segment_runs

abbrev pub piece_views : Column (sum segment_fill)
piece_views = many segment_views

abbrev pub piece_pool : Column (sum segment_fill)
piece_pool = plain bytes (joined segment_bytes) (joined_long segment_fill bytes segment_bytes segment_bytes_long)
