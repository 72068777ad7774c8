-- Segments laid one after the other, as many as a walk gives. Assumes nothing.
use Rattle.std.specs.Prelude.{None, Option, Some}
use Prim.Native.Nat.{ℕ, ◌+◌, ◌*◌, ◌≤◌}
use mathlib.Core.Path.{◌≡◌, refl, sym, ap, ◌∙◌}
use mathlib.Core.List.{List, [], ◌++◌, append-nil}
use native.Mathlib.Omega.{arith}
use lib.ListN.{length}
use Rattle.tables.specs.Layout.{write, over, joined}
use Rattle.tables.proofs.Writes.{then, write_none, write_length, write_front}
use Rattle.records.specs.Decode.{segment_in}
use Rattle.records.specs.Words.{segment_words}
use Rattle.records.specs.Fill.{empty, plus, sum, segment_fill}
use Rattle.records.specs.Layout.{past_prefix, segment_row, tree_runs_laid, tree_views_laid, segment_bytes, segments_laid, segments_runs_laid, segments_views_laid}
use Rattle.records.specs.declared.Fill.{Fill}
use Rattle.records.specs.declared.SegmentRow.{SegmentRow}
use Rattle.records.proofs.Sums.{plus_empty, empty_plus, plus_assoc, sum_append}
use Rattle.records.proofs.Laid.{Table, at, at_plus, at_empty, Column, column, column_long, laid_append}
use Rattle.merge.specs.Steps.{keep_in}

-- ---- one segment, or none
module _ (runs views pool : List ℕ) (keep : Option SegmentRow) (c : Fill) where
  -- the cursor and the four tables past what is kept
  abbrev pub KeptLaid : Fill → List ℕ → List ℕ → List ℕ → List ℕ → List ℕ → List ℕ → List ℕ → List ℕ → Type 0
  KeptLaid q s r v b s' r' v' b' =
      (q ≡ plus c (sum segment_fill (keep_in runs views pool keep)))
      × ((s' ≡ write s (c.segments * 12) (segments_laid c (keep_in runs views pool keep)))
      × ((r' ≡ write r (c.runs * 3) (segments_runs_laid c (keep_in runs views pool keep)))
      × ((v' ≡ write v (c.views * 16) (segments_views_laid c (keep_in runs views pool keep))) × (b' ≡ write b c.bytes (joined segment_bytes (keep_in runs views pool keep))))))

  pub kept_none : (s r v b : List ℕ) → keep ≡ None → KeptLaid c s r v b s r v b
  unfolding segments_laid segments_runs_laid segments_views_laid
  kept_none s r v b e =
      rw e (sym (plus_empty c), (sym (write_none s (c.segments * 12)), (sym (write_none r (c.runs * 3)), (sym (write_none v (c.views * 16)), sym (write_none b c.bytes)))))

  module _ (x : SegmentRow) (e : keep ≡ Some x) where
    pub kept_room : (t : Table) (n : ℕ) → at t (plus c (sum segment_fill (keep_in runs views pool keep))) ≤ n → at t (plus c (segment_fill (segment_in runs views pool x))) ≤ n
    kept_room t n h = rw (ap (λ (f : Fill). at t (plus c f)) (plus_empty (segment_fill (segment_in runs views pool x)))) at (rw e at h)

    pub kept_one : (q : Fill) (s r v b s' r' v' b' : List ℕ)
        → q ≡ plus c (segment_fill (segment_in runs views pool x))
        → s' ≡ write s (c.segments * 12) (segment_words (segment_row c (segment_in runs views pool x)))
        → r' ≡ write r (c.runs * 3) (tree_runs_laid (past_prefix c (segment_in runs views pool x)) (segment_in runs views pool x).tree)
        → v' ≡ write v (c.views * 16) (tree_views_laid (past_prefix c (segment_in runs views pool x)) (segment_in runs views pool x).tree)
        → b' ≡ write b c.bytes (segment_bytes (segment_in runs views pool x))
        → KeptLaid q s r v b s' r' v' b'
    unfolding segments_laid segments_runs_laid segments_views_laid
    kept_one q s r v b s' r' v' b' f hs hr hv hb =
        let g = segment_in runs views pool x in
        rw e (
          f ∙ ap (λ (z : Fill). plus c z) (sym (plus_empty (segment_fill g))),
          (
            rw (append-nil (segment_words (segment_row c g))) hs,
            (
              rw (append-nil (tree_runs_laid (past_prefix c g) g.tree)) hr,
              (rw (append-nil (tree_views_laid (past_prefix c g) g.tree)) hv, rw (append-nil (segment_bytes g)) hb),
            ),
          ),
        )

-- ---- what is left, laid now, gives the whole
pub record Laying {A : Type 0} {fill : A → Fill} (col : Column fill) (all rest : List A) (d₀ d : List ℕ) (c : Fill) : Type 0 where
  pub room : at col.table (plus c (sum fill rest)) ≤ length d
  pub long : length d ≡ length d₀
  pub is : write d (at col.table c) (column col c rest) ≡ over d₀ (column col empty all)

module _ {A : Type 0} {fill : A → Fill} (col : Column fill) (all : List A) (d₀ : List ℕ) where
  pub laying_none : at col.table (sum fill all) ≤ length d₀ → Laying col all all d₀ d₀ empty
  laying_none h =
      record {
        room = rw (empty_plus (sum fill all)) h;
        long = refl;
        is = ap (λ (k : ℕ). write d₀ k (column col empty all)) (at_empty col.table) ∙ write_front d₀ (column col empty all);
      }

  pub laying_all : (d : List ℕ) (c : Fill) (rest : List A) → rest ≡ [] → Laying col all rest d₀ d c → d ≡ over d₀ (column col empty all)
  laying_all d c rest e y = sym (write_none d (at col.table c)) ∙ (rw e at y.is)

  module _ (d : List ℕ) (c : Fill) (rest xs ys : List A) (e : rest ≡ xs ++ ys) (y : Laying col all rest d₀ d c) where
    sums : at col.table (plus c (sum fill rest)) ≡ at col.table (plus c (sum fill xs)) + at col.table (sum fill ys)
    sums =
        rw (e, sum_append fill xs ys)
        (omega (arith, at_plus col.table c (plus (sum fill xs) (sum fill ys)), at_plus col.table (sum fill xs) (sum fill ys), at_plus col.table c (sum fill xs)))

    -- room for what is left is room for the next
    pub laying_room : at col.table (plus c (sum fill xs)) ≤ length d
    laying_room = omega (arith, sums, y.room)

    pub laying_more : (d' : List ℕ) (c' : Fill) → c' ≡ plus c (sum fill xs) → d' ≡ write d (at col.table c) (column col c xs) → Laying col all ys d₀ d' c'
    laying_more d' c' p q =
        let t = col.table in
        let long = column_long col c xs in
        let from : at t c ≤ length d = omega (arith, laying_room, at_plus t c (sum fill xs)) in
        let n : at t c' ≡ at t c + length (column col c xs) = rw (p, long) (at_plus t c (sum fill xs)) in
        let l : length d' ≡ length d = ap length q ∙ write_length d (at t c) (column col c xs) (omega (arith, laying_room, at_plus t c (sum fill xs), long)) in
        record {
          room = rw (p, l) (omega (arith, sums, y.room, at_plus t (plus c (sum fill xs)) (sum fill ys)));
          long = l ∙ y.long;
          is =
              then d d' (write d' (at t c') (column col c' ys)) (at t c) (at t c') (column col c xs) (column col c' ys) from q n refl
              ∙ ap (λ (l : List ℕ). write d (at t c) l) (ap (λ (f : Fill). column col c xs ++ column col f ys) p ∙ sym (laid_append fill col.words c xs ys) ∙ ap (column col c) (sym e))
              ∙ y.is;
        }

-- the fill of what was laid
pub filled_more : {A : Type 0} (fill : A → Fill) (all rest xs ys : List A) (c c' : Fill) → rest ≡ xs ++ ys → plus c (sum fill rest) ≡ sum fill all → c' ≡ plus c (sum fill xs) → plus c' (sum fill ys) ≡ sum fill all
filled_more fill all rest xs ys c c' e h p =
    ap (λ (f : Fill). plus f (sum fill ys)) p ∙ plus_assoc c (sum fill xs) (sum fill ys) ∙ ap (λ (f : Fill). plus c f) (sym (sum_append fill xs ys)) ∙ ap (λ (zs : List _). plus c (sum fill zs)) (sym e) ∙ h
