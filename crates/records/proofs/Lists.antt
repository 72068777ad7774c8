-- Records of every kind read back from tables that hold them, wherever they stand. Assumes nothing.
use Prim.Native.Nat.{ℕ, suc, ◌+◌, ◌*◌, ◌/◌, ◌<◌}
use mathlib.Core.Path.{◌≡◌, sym, ap, ◌∙◌}
use mathlib.Core.List.{List, [], ◌∷◌}
use native.Mathlib.Omega.{arith}
use native.Mathlib.Nat.{suc-mul, add-zero}
use lib.ListN.{length, length-append}
use Rattle.ids.specs.declared.SstId.{SstId}
use Rattle.tables.specs.Layout.{up_to, joined}
use Rattle.tables.specs.Window.{held_of}
use Rattle.tables.proofs.Holds.{Holds, holds_first, holds_rest, holds_place, held_back, reads_back, part_back}
use Rattle.records.specs.Model.{View, Run, Tree, Segment, Borrow}
use Rattle.records.specs.Row.{view_at, run_at, segment_at, borrow_at, id_at}
use Rattle.records.specs.Words.{id_words}
use Rattle.records.specs.Decode.{view_in, views_in, run_in, runs_in, tree_in, segment_in, segments_in, ids_in, borrow_in, borrows_in}
use Rattle.records.specs.Fill.{plus, sum, view_fill, run_fill, segment_fill, borrow_fill}
use Rattle.records.specs.Fill.{ids as id_cells}
use Rattle.records.specs.Layout.{past_l0, past_prefix, view_row, run_row, tree_row, segment_row, borrow_row, view_bytes, views_laid, run_bytes, runs_laid, runs_views_laid, tree_bytes, tree_views_laid, tree_runs_laid, segment_bytes, segments_laid, segments_views_laid, segments_runs_laid, borrows_laid, borrow_ids, borrow_path, ids_laid}
use Rattle.records.specs.declared.Fill.{Fill}
use Rattle.records.proofs.Laid.{views, at, at_plus, Column, column, laid_joined}
use Rattle.records.proofs.Columns.{view_fill_lem, views_fill, views_long, view_rows, view_pool, run_fill_lem, run_rows, run_views, run_pool, segment_fill_lem, segment_rows, segment_views, segment_runs, segment_pool, id_fill, id_rows, borrow_fill_lem, borrow_rows, borrow_id_rows, borrow_pool}
use Rattle.records.proofs.Rows.{view_wide, run_wide, segment_wide, borrow_wide, id_wide, view_at_back, run_at_back, segment_at_back, borrow_at_back, id_at_back}
use Rattle.records.proofs.Bytes.{view_in_back}

-- what some records write into a table stands there, from a cursor on
abbrev pub Stands : {A : Type 0} {fill : A → Fill} → Column fill → List ℕ → Fill → List A → Type 0
Stands col t c xs = Holds t (at col.table c) (column col c xs)

module _ {A : Type 0} {fill : A → Fill} (col : Column fill) (t : List ℕ) (c : Fill) (x : A) (xs : List A) where
  pub stands_first : Stands col t c (x ∷ xs) → Holds t (at col.table c) (col.words c x)
  stands_first h = holds_first t (at col.table c) (col.words c x) (column col (plus c (fill x)) xs) h

  pub stands_rest : Stands col t c (x ∷ xs) → Stands col t (plus c (fill x)) xs
  stands_rest h =
      holds_rest t (at col.table c) (col.words c x) (column col (plus c (fill x)) xs) (at col.table (plus c (fill x)))
      (rw (col.long c x) (sym (at_plus col.table c (fill x)))) h

-- One law for every table of rows: `own` is the records' own table, rows of w words, one for each.
module _ {A : Type 0} {fill : A → Fill} (own : Column fill) (count : Fill → ℕ) (w : ℕ) (some : 0 < w)
    (wide : (c : Fill) (x : A) → length (own.words c x) ≡ w) (one : (c : Fill) (x : A) → count (plus c (fill x)) ≡ suc (count c)) where
  pub column_wide : (c : Fill) (xs : List A) → length (column own c xs) ≡ length xs * w
  column_wide c [] = omega arith
  column_wide c (x ∷ xs) = rw (length-append, wide c x, column_wide (plus c (fill x)) xs, suc-mul) (omega arith)

  -- `Rest` is what the other tables hold of the records; `read` makes x of the row that holds x, with what it points to.
  pub rows_back : (t : List ℕ) (read : ℕ → A) (Rest : Fill → List A → Type 0)
      → ((c : Fill) (x : A) (xs : List A) → Holds t (count c * w) (own.words c x) → Rest c (x ∷ xs) → (read (count c) ≡ x) × Rest (plus c (fill x)) xs)
      → (c : Fill) (xs : List A) → Holds t (count c * w) (column own c xs) → Rest c xs
      → up_to (λ k. read (count c + k)) (held_of (record { first = count c; count = length xs }) (length t / w)) ≡ xs
  rows_back t read Rest turn c xs h g =
      rw (held_back t (count c) (length xs) w (column own c xs) some (column_wide c xs) h)
      (reads_back read count (λ d x. plus d (fill x)) (λ d xs. Holds t (count d * w) (column own d xs) × Rest d xs) go c xs (h, g))
    where
      go : (d : Fill) (x : A) (xs : List A) → Holds t (count d * w) (column own d (x ∷ xs)) × Rest d (x ∷ xs)
          → (read (count d) ≡ x) × (count (plus d (fill x)) ≡ suc (count d))
          × (Holds t (count (plus d (fill x)) * w) (column own (plus d (fill x)) xs) × Rest (plus d (fill x)) xs)
      go d x xs k =
          let l = column own (plus d (fill x)) xs in
          let r = turn d x xs (holds_first t (count d * w) (own.words d x) l k.0) k.1 in
          let n : count d * w + length (own.words d x) ≡ count (plus d (fill x)) * w = rw (wide d x, one d x, suc-mul) in
          (r.0, one d x, (holds_rest t (count d * w) (own.words d x) l (count (plus d (fill x)) * w) n k.0, r.1))

-- ---- ids

pub ids_back : (it : List ℕ) (n : ℕ) (xs : List SstId) → Holds it (n * 2) (ids_laid xs) → ids_in it (record { first = n; count = length xs }) ≡ xs
unfolding ids_in ids_laid
ids_back it n xs h =
    rows_back id_rows (λ d. d.ids) 2 (omega arith) (λ d x. id_wide x) (λ d x. omega arith)
    it (λ i. id_at it i) (λ d xs. Unit) (λ d x xs k g. (id_at_back it d.ids x k, tt))
    (id_cells n) xs (rw (laid_joined id_fill id_words (id_cells n) xs) h) tt

module _ (vt pt : List ℕ) where
  -- ---- views

  pub views_back : (c : Fill) (vs : List View)
      → Holds vt (c.views * 16) (views_laid c vs) → Holds pt c.bytes (joined view_bytes vs)
      → views_in vt pt (record { first = c.views; count = length vs }) ≡ vs
  unfolding views_in views_laid
  views_back c vs h p =
      rows_back view_rows (λ d. d.views) 16 (omega arith) (λ d v. view_wide (view_row d.bytes v)) (λ d v. rw (view_fill_lem v) (omega arith))
      vt (λ i. view_in pt (view_at vt i)) (Stands view_pool pt)
      (λ d v vs k g. (
        ap (view_in pt) (view_at_back vt d.views (view_row d.bytes v) k) ∙ view_in_back pt d.bytes v (stands_first view_pool pt d v vs g),
        stands_rest view_pool pt d v vs g,
      ))
      c vs h (rw (laid_joined view_fill view_bytes c vs) p)

  -- ---- runs

  pub run_back : (c : Fill) (r : Run) → Holds vt (c.views * 16) (views_laid c r.views) → Holds pt c.bytes (run_bytes r) → run_in vt pt (run_row c r) ≡ r
  unfolding run_in run_row run_bytes
  run_back c r h p = rw (views_back c r.views h p)

module _ (rt vt pt : List ℕ) where
  pub runs_back : (c : Fill) (rs : List Run)
      → Holds rt (c.runs * 3) (runs_laid c rs) → Holds vt (c.views * 16) (runs_views_laid c rs) → Holds pt c.bytes (joined run_bytes rs)
      → runs_in rt vt pt (record { first = c.runs; count = length rs }) ≡ rs
  unfolding runs_in runs_laid runs_views_laid
  runs_back c rs h v p =
      rows_back run_rows (λ d. d.runs) 3 (omega arith) (λ d r. run_wide (run_row d r)) (λ d r. rw (run_fill_lem r) (omega arith))
      rt (λ i. run_in vt pt (run_at rt i)) (λ d rs. Stands run_views vt d rs × Stands run_pool pt d rs)
      (λ d r rs k g. (
        ap (run_in vt pt) (run_at_back rt d.runs (run_row d r) k)
            ∙ run_back vt pt d r (stands_first run_views vt d r rs g.0) (stands_first run_pool pt d r rs g.1),
        (stands_rest run_views vt d r rs g.0, stands_rest run_pool pt d r rs g.1),
      ))
      c rs h (v, rw (laid_joined run_fill run_bytes c rs) p)

  -- ---- trees: L0, then the runs

  pub tree_back : (c : Fill) (t : Tree)
      → Holds rt (c.runs * 3) (tree_runs_laid c t) → Holds vt (c.views * 16) (tree_views_laid c t) → Holds pt c.bytes (tree_bytes t)
      → tree_in rt vt pt (tree_row c t) ≡ t
  unfolding tree_in tree_row tree_runs_laid tree_views_laid tree_bytes
  tree_back c t h v p =
      let d = past_l0 c t in
      let ls = views_laid c t.l0 in
      let bs = joined view_bytes t.l0 in
      let e : d.runs ≡ c.runs = rw (views_fill t.l0) (omega arith) in
      let long : length ls ≡ at views (sum view_fill t.l0) = views_long c t.l0 in
      let rs =
      runs_back d t.runs (holds_place rt (c.runs * 3) (d.runs * 3) (runs_laid d t.runs) (rw e) h)
      (holds_rest vt (c.views * 16) ls (runs_views_laid d t.runs) (d.views * 16) (rw long (omega arith)) v)
      (holds_rest pt c.bytes bs (joined run_bytes t.runs) d.bytes (rw (views_fill t.l0) (omega arith)) p) in
      rw
      (views_back vt pt c t.l0 (holds_first vt (c.views * 16) ls (runs_views_laid d t.runs) v) (holds_first pt c.bytes bs (joined run_bytes t.runs) p), rw e at rs)

  -- ---- segments: the prefix, then the tree

  pub segment_back : (c : Fill) (s : Segment)
      → Holds rt (c.runs * 3) (tree_runs_laid (past_prefix c s) s.tree) → Holds vt (c.views * 16) (tree_views_laid (past_prefix c s) s.tree)
      → Holds pt c.bytes (segment_bytes s) → segment_in rt vt pt (segment_row c s) ≡ s
  unfolding segment_in segment_row segment_bytes tree_row
  segment_back c s h v p =
      let d = past_prefix c s in
      let bs = tree_bytes s.tree in
      let t =
      tree_back d s.tree
      (holds_place rt (c.runs * 3) (d.runs * 3) (tree_runs_laid d s.tree) (omega arith) h)
      (holds_place vt (c.views * 16) (d.views * 16) (tree_views_laid d s.tree) (omega arith) v)
      (holds_rest pt c.bytes s.prefix bs d.bytes (omega arith) p) in
      rw (part_back pt c.bytes s.prefix (holds_first pt c.bytes s.prefix bs p), simp add-zero at t)

pub segments_back : (st rt vt pt : List ℕ) (c : Fill) (ss : List Segment)
    → Holds st (c.segments * 12) (segments_laid c ss) → Holds rt (c.runs * 3) (segments_runs_laid c ss)
    → Holds vt (c.views * 16) (segments_views_laid c ss) → Holds pt c.bytes (joined segment_bytes ss)
    → segments_in st rt vt pt (record { first = c.segments; count = length ss }) ≡ ss
unfolding segments_in segments_laid segments_runs_laid segments_views_laid
segments_back st rt vt pt c ss h r v p =
    rows_back segment_rows (λ d. d.segments) 12 (omega arith) (λ d s. segment_wide (segment_row d s)) (λ d s. rw (segment_fill_lem s) (omega arith))
    st (λ i. segment_in rt vt pt (segment_at st i)) (λ d ss. Stands segment_runs rt d ss × Stands segment_views vt d ss × Stands segment_pool pt d ss)
    (λ d s ss k g. (
      ap (segment_in rt vt pt) (segment_at_back st d.segments (segment_row d s) k)
          ∙ segment_back rt vt pt d s (stands_first segment_runs rt d s ss g.0) (stands_first segment_views vt d s ss g.1) (stands_first segment_pool pt d s ss g.2),
      (stands_rest segment_runs rt d s ss g.0, stands_rest segment_views vt d s ss g.1, stands_rest segment_pool pt d s ss g.2),
    ))
    c ss h (r, v, rw (laid_joined segment_fill segment_bytes c ss) p)

-- ---- borrows

pub borrow_back : (it pt : List ℕ) (c : Fill) (b : Borrow) → Holds it (c.ids * 2) (borrow_ids b) → Holds pt c.bytes (borrow_path b) → borrow_in it pt (borrow_row c b) ≡ b
unfolding borrow_in borrow_row
borrow_back it pt c b h p = rw (part_back pt c.bytes b.path p, ids_back it c.ids b.ids h)

pub borrows_back : (bt it pt : List ℕ) (c : Fill) (bs : List Borrow)
    → Holds bt (c.borrows * 9) (borrows_laid c bs) → Holds it (c.ids * 2) (joined borrow_ids bs) → Holds pt c.bytes (joined borrow_path bs)
    → borrows_in bt it pt (record { first = c.borrows; count = length bs }) ≡ bs
unfolding borrows_in borrows_laid
borrows_back bt it pt c bs h i p =
    rows_back borrow_rows (λ d. d.borrows) 9 (omega arith) (λ d b. borrow_wide (borrow_row d b)) (λ d b. rw (borrow_fill_lem b) (omega arith))
    bt (λ i. borrow_in it pt (borrow_at bt i)) (λ d bs. Stands borrow_id_rows it d bs × Stands borrow_pool pt d bs)
    (λ d b bs k g. (
      ap (borrow_in it pt) (borrow_at_back bt d.borrows (borrow_row d b) k)
          ∙ borrow_back it pt d b (stands_first borrow_id_rows it d b bs g.0) (stands_first borrow_pool pt d b bs g.1),
      (stands_rest borrow_id_rows it d b bs g.0, stands_rest borrow_pool pt d b bs g.1),
    ))
    c bs h (rw (laid_joined borrow_fill borrow_ids c bs) i, rw (laid_joined borrow_fill borrow_path c bs) p)
