-- THE CANONICAL LAYOUT LIES WITHIN ITS TABLES: tables that begin with a manifest's layout, and have room for it, break nothing of L1's
-- "pointing outside its lent table or pool, or holding a code that stands for nothing". Assumes nothing.
use Prim.Native.Nat.{ℕ, ◌+◌, ◌*◌, ◌/◌, ◌^◌, ◌≤◌}
use mathlib.Core.Path.{◌≡◌, refl, sym, ap, ◌∙◌}
use mathlib.Core.Bool.{Bool, true, ◌&&◌}
use mathlib.Core.List.{List, ◌++◌, append-nil}
use native.Mathlib.Omega.{arith}
use native.Mathlib.Nat.{add-zero, add_assoc}
use borrow.Author.Tests.{le-leb}
use lib.Dec.{leb, ltb}
use lib.ListN.{length, get_or, length-append}
use Rattle.keys.specs.Range.{Edge, unbounded, included, excluded}
use Rattle.tables.specs.Layout.{joined}
use Rattle.tables.specs.Window.{lies_in, held_of}
use Rattle.tables.specs.declared.Window.{Window}
use Rattle.tables.proofs.Holds.{Holds, holds_place, holds_word}
use Rattle.tables.proofs.Joined.{joined_append}
use Rattle.tables.proofs.Windows.{held_all}
use Rattle.records.specs.Model.{LastKey, unknown, known, Seen, all, only, View, Run, Tree, Segment, Borrow, Extractor, none, named, Manifest}
use Rattle.records.specs.Row.{run_at, segment_at}
use Rattle.records.specs.Words.{bound_cell, last_cell, visible_cells, view_words, tree_words, segment_words, borrow_words}
use Rattle.records.specs.Fill.{segments as segment_cells, empty, plus, sum, last_keys, edge_keys, seen_keys, name_keys, key_fill, view_fill, run_fill, tree_fill, segment_fill, borrow_fill, manifest_fill}
use Rattle.records.specs.Layout.{run, last_row, bound_row, visible_row, view_row, run_row, tree_row, segment_row, borrow_row, name_row, view_bytes, views_laid, run_bytes, runs_laid, runs_views_laid, tree_bytes, tree_views_laid, tree_runs_laid, segment_bytes, segments_laid, segments_views_laid, segments_runs_laid, borrows_laid, borrow_ids, borrow_path, past_l0, past_prefix, past_tree, past_segments, past_name, manifest_row, layout}
use Rattle.records.specs.Decode.{Lent, run_in, runs_in, tree_in, segment_in, segments_in, manifest_in}
use Rattle.records.specs.declared.Fill.{Fill}
use Rattle.records.specs.declared.ViewRow.{ViewRow}
use Rattle.records.specs.declared.TreeRow.{TreeRow}
use Rattle.records.specs.declared.SegmentRow.{SegmentRow}
use Rattle.records.specs.declared.ManifestRow.{ManifestRow}
use Rattle.records.proofs.Laid.{Table, segments, views, runs, borrows, ids, pool, at, at_empty, column}
use Rattle.records.proofs.Columns.{keys_fill, view_fill_lem, views_fill, view_bytes_long, view_rows, views_long, run_fill_lem, runs_fill, run_rows, run_views, run_bytes_long, tree_fill_lem, tree_views_long, tree_runs_long, tree_bytes_long, segment_fill_lem, segments_fill, segment_rows, segment_views, segment_runs, segment_bytes_long, borrow_fill_lem, borrows_fill, borrow_rows, borrow_ids_long, borrow_path_long}
use Rattle.records.proofs.Sums.{empty_plus}
use Rattle.records.proofs.Rows.{run_at_back, segment_at_back, borrow_at_back}
use Rattle.records.proofs.Stair.{Begins, table_of}
use Rattle.measure.specs.Tests.{all_of, all_below}
use Rattle.measure.specs.Placed.{key_in, opened, bounded, view_placed, views_placed, run_placed, runs_placed, tree_placed, segment_placed, segments_placed, borrow_placed, borrows_placed, name_placed, placed}
use Rattle.measure.proofs.Lists.{all_up_to}
use Rattle.measure.proofs.Lies.{both, and_each, Lies, lies_as, lies_first, lies_rest, lies_cut, lies_past, lies_at, rows_good, window_in, view_mark_opens, sst_mark_opens, final_opens, below_all}

-- ---- views

module _ (n : ℕ) where
  bound_in_lem : (from : ℕ) (e : Edge) → from + length (run (edge_keys e)) ≤ n
      → bounded (bound_cell (bound_row from e)).code (key_in n (record { at = (bound_cell (bound_row from e)).a; len = (bound_cell (bound_row from e)).b })) ≡ true
  bound_in_lem from unbounded h = refl
  bound_in_lem from (included k) h = le-leb (from + length k) n (rw (append-nil k) at h)
  bound_in_lem from (excluded k) h = le-leb (from + length k) n (rw (append-nil k) at h)

  last_in_lem : (from : ℕ) (l : LastKey) → from + length (run (last_keys l)) ≤ n
      → opened (last_cell (last_row from l)).code (key_in n (record { at = (last_cell (last_row from l)).a; len = (last_cell (last_row from l)).b })) ≡ true
  last_in_lem from unknown h = refl
  last_in_lem from (known k) h = le-leb (from + length k) n (rw (append-nil k) at h)

  visible_in : (from : ℕ) (s : Seen) → from + length (run (seen_keys s)) ≤ n
      → opened (visible_cells (visible_row from s)).code (bounded (visible_cells (visible_row from s)).start.code (key_in n (record { at = (visible_cells (visible_row from s)).start.a; len = (visible_cells (visible_row from s)).start.b })) && bounded (visible_cells (visible_row from s)).end.code (key_in n (record { at = (visible_cells (visible_row from s)).end.a; len = (visible_cells (visible_row from s)).end.b }))) ≡ true
  visible_in from all h = refl
  visible_in from (only r) h =
      let ks = edge_keys r.start in
      let ls = edge_keys r.end in
      let l : length (run (ks ++ ls)) ≡ length (run ks) + length (run ls) = ap length (joined_append (λ k. k) ks ls) ∙ length-append (run ks) (run ls) in
      both _ _ (bound_in_lem from r.start (omega arith)) (bound_in_lem (from + length (run ks)) r.end (omega arith))

  pub row_in : (vt : List ℕ) (i : ℕ) (v : ViewRow) → key_in n v.first ≡ true
      → opened (last_cell v.last).code (key_in n (record { at = (last_cell v.last).a; len = (last_cell v.last).b })) ≡ true
      → opened (visible_cells v.visible).code (bounded (visible_cells v.visible).start.code (key_in n (record { at = (visible_cells v.visible).start.a; len = (visible_cells v.visible).start.b })) && bounded (visible_cells v.visible).end.code (key_in n (record { at = (visible_cells v.visible).end.a; len = (visible_cells v.visible).end.b }))) ≡ true
      → Holds vt (i * 16) (view_words v) → view_placed n vt i ≡ true
  unfolding view_placed view_words
  row_in vt i v f l s h = simp (add_assoc, holds_word vt (i * 16) (view_words v) h) (both _ _ (both _ _ f l) s)

  view_in : (vt : List ℕ) (i from : ℕ) (v : View) → from + length (view_bytes v) ≤ n → Holds vt (i * 16) (view_words (view_row from v)) → view_placed n vt i ≡ true
  unfolding view_row view_bytes
  view_in vt i from v l h =
      let ks = last_keys v.last in
      let ls = seen_keys v.visible in
      let e : length (v.first ++ run (ks ++ ls)) ≡ length v.first + (length (run ks) + length (run ls)) =
      length-append v.first (run (ks ++ ls)) ∙ ap (λ (m : ℕ). length v.first + m) (ap length (joined_append (λ k. k) ks ls) ∙ length-append (run ks) (run ls)) in
      row_in vt i (view_row from v) (le-leb (from + length v.first) n (omega arith)) (last_in_lem (from + length v.first) v.last (omega arith)) (visible_in (from + length v.first + length (run ks)) v.visible (omega arith)) h

module _ (vt pt : List ℕ) where
  views_in_lem : (c : Fill) (vs : List View) → Lies views vt c (sum view_fill vs) (views_laid c vs) → Lies pool pt c (sum view_fill vs) (joined view_bytes vs)
      → views_placed (length pt) vt (record { first = c.views; count = length vs }) ≡ true
  unfolding views_placed views_laid
  views_in_lem c vs h p =
      both _ _
      (window_in c.views (length vs) 16 (length vt) (omega arith) (omega (arith, h.room, ap (λ (f : Fill). f.views) (views_fill vs))))
      (rows_good view_fill (λ d. d.views) (view_placed (length pt) vt)
      (λ d vs. Lies views vt d (sum view_fill vs) (column view_rows d vs) × Lies pool pt d (sum view_fill vs) (joined view_bytes vs))
      (λ d v. rw (view_fill_lem v) (omega arith))
      (λ d v vs r. (
        view_in (length pt) vt d.views d.bytes v
            (omega (arith, (lies_first pool pt d (view_fill v) (sum view_fill vs) (view_bytes v) (joined view_bytes vs) (view_bytes_long v) r.1).room, view_bytes_long v))
            (lies_first views vt d (view_fill v) (sum view_fill vs) (view_rows.words d v) (column view_rows (plus d (view_fill v)) vs) (view_rows.long d v) r.0).holds,
        (
          lies_rest views vt d (view_fill v) (sum view_fill vs) (view_rows.words d v) (column view_rows (plus d (view_fill v)) vs) (view_rows.long d v) r.0,
          lies_rest pool pt d (view_fill v) (sum view_fill vs) (view_bytes v) (joined view_bytes vs) (view_bytes_long v) r.1,
        ),
      ))
      c vs (h, p))

-- ---- runs

-- "u32 id"
abbrev pub id_small : Run → Bool
id_small r = ltb r.id (2 ^ 32)

module _ (rt vt pt : List ℕ) where
  run_in_lem : (c : Fill) (r : Run) → id_small r ≡ true → Holds rt (c.runs * 3) (run_rows.words c r) → Lies views vt c (run_fill r) (views_laid c r.views) → Lies pool pt c (run_fill r) (run_bytes r)
      → run_placed (length pt) vt rt c.runs ≡ true
  unfolding run_placed run_row run_bytes run_fill
  run_in_lem c r s h v p =
      let w : views_placed (length pt) vt (record { first = c.views; count = length r.views }) ≡ true =
      views_in_lem vt pt c r.views (lies_as views vt c (run_fill r) (sum view_fill r.views) (views_laid c r.views) (omega arith) v) (lies_as pool pt c (run_fill r) (sum view_fill r.views) (run_bytes r) (omega arith) p) in
      rw (run_at_back rt c.runs (run_row c r) h, s, w)

  runs_in_lem : (c : Fill) (rs : List Run) → all_of id_small rs ≡ true
      → Lies runs rt c (sum run_fill rs) (runs_laid c rs) → Lies views vt c (sum run_fill rs) (runs_views_laid c rs) → Lies pool pt c (sum run_fill rs) (joined run_bytes rs)
      → runs_placed (length pt) vt rt (record { first = c.runs; count = length rs }) ≡ true
  unfolding runs_placed runs_laid runs_views_laid
  runs_in_lem c rs s h v p =
      both _ _
      (window_in c.runs (length rs) 3 (length rt) (omega arith) (omega (arith, h.room, ap (λ (f : Fill). f.runs) (runs_fill rs))))
      (rows_good run_fill (λ d. d.runs) (run_placed (length pt) vt rt)
      (λ d rs. (all_of id_small rs ≡ true) × (Lies runs rt d (sum run_fill rs) (column run_rows d rs) × (Lies views vt d (sum run_fill rs) (column run_views d rs) × Lies pool pt d (sum run_fill rs) (joined run_bytes rs))))
      (λ d r. rw (run_fill_lem r) (omega arith))
      (λ d r rs g.
      let f = run_fill r in
      let k = sum run_fill rs in
      let e = plus d f in
      let a = and_each (id_small r) (all_of id_small rs) g.0 in (
        run_in_lem d r a.0
            (lies_first runs rt d f k (run_rows.words d r) (column run_rows e rs) (run_rows.long d r) g.1.0).holds
            (lies_first views vt d f k (run_views.words d r) (column run_views e rs) (run_views.long d r) g.1.1.0)
            (lies_first pool pt d f k (run_bytes r) (joined run_bytes rs) (run_bytes_long r) g.1.1.1),
        (
          a.1,
          (
            lies_rest runs rt d f k (run_rows.words d r) (column run_rows e rs) (run_rows.long d r) g.1.0,
            (
              lies_rest views vt d f k (run_views.words d r) (column run_views e rs) (run_views.long d r) g.1.1.0,
              lies_rest pool pt d f k (run_bytes r) (joined run_bytes rs) (run_bytes_long r) g.1.1.1,
            ),
          ),
        ),
      ))
      c rs (s, (h, (v, p))))

  -- ---- trees

  pub tree_in_lem : (c : Fill) (t : Tree) → all_of id_small t.runs ≡ true
      → Lies runs rt c (tree_fill t) (tree_runs_laid c t) → Lies views vt c (tree_fill t) (tree_views_laid c t) → Lies pool pt c (tree_fill t) (tree_bytes t)
      → tree_placed (length pt) vt rt (tree_row c t) ≡ true
  unfolding tree_placed tree_row tree_runs_laid tree_views_laid tree_bytes tree_fill
  tree_in_lem c t s h v p =
      let f = sum view_fill t.l0 in
      let g = sum run_fill t.runs in
      let d = past_l0 c t in
      let e : d.runs ≡ c.runs = rw (views_fill t.l0) (omega arith) in
      let z : at runs f ≡ 0 = rw (views_fill t.l0) (omega arith) in
      let l : length (joined view_bytes t.l0) ≡ at pool f = rw (views_fill t.l0) (omega arith) in
      let rs =
      runs_in_lem d t.runs s (lies_past runs rt c f g (runs_laid d t.runs) z h)
      (lies_rest views vt c f g (views_laid c t.l0) (runs_views_laid d t.runs) (views_long c t.l0) v)
      (lies_rest pool pt c f g (joined view_bytes t.l0) (joined run_bytes t.runs) l p) in
      both _ _
      (views_in_lem vt pt c t.l0 (lies_first views vt c f g (views_laid c t.l0) (runs_views_laid d t.runs) (views_long c t.l0) v) (lies_first pool pt c f g (joined view_bytes t.l0) (joined run_bytes t.runs) l p))
      (rw e at rs)

  -- ---- segments

  segment_row_in : (st : List ℕ) (i : ℕ) (s : SegmentRow) → Holds st (i * 12) (segment_words s) → key_in (length pt) s.prefix ≡ true → tree_placed (length pt) vt rt s.tree ≡ true
      → segment_placed (length pt) vt rt st i ≡ true
  unfolding segment_placed segment_words tree_words
  segment_row_in st i s h k t =
      let one : opened (get_or st (i * 12 + 2) 0) true ≡ true = rw (holds_word st (i * 12) (segment_words s) h 2) (view_mark_opens s.tree.view) in
      let other : opened (get_or st (i * 12 + 5) 0) true ≡ true = rw (holds_word st (i * 12) (segment_words s) h 5) (sst_mark_opens s.tree.sst) in
      rw (segment_at_back st i s h, one, other, k, t)

  segment_in_lem : (st : List ℕ) (c : Fill) (s : Segment) → all_of id_small s.tree.runs ≡ true → Holds st (c.segments * 12) (segment_words (segment_row c s))
      → Lies runs rt c (segment_fill s) (tree_runs_laid (past_prefix c s) s.tree) → Lies views vt c (segment_fill s) (tree_views_laid (past_prefix c s) s.tree) → Lies pool pt c (segment_fill s) (segment_bytes s)
      → segment_placed (length pt) vt rt st c.segments ≡ true
  unfolding segment_row segment_bytes segment_fill tree_row
  segment_in_lem st c s a h r v p =
      let one = segment_cells 1 in
      let k = key_fill s.prefix in
      let f = tree_fill s.tree in
      let g = plus k f in
      let d = plus c one in
      let e = past_prefix c s in
      let q = lies_past pool pt c one g (s.prefix ++ tree_bytes s.tree) refl p in
      let t =
      tree_in_lem e s.tree a
      (lies_past runs rt d k f (tree_runs_laid e s.tree) refl (lies_past runs rt c one g (tree_runs_laid e s.tree) refl r))
      (lies_past views vt d k f (tree_views_laid e s.tree) refl (lies_past views vt c one g (tree_views_laid e s.tree) refl v))
      (lies_rest pool pt d k f s.prefix (tree_bytes s.tree) refl q) in
      segment_row_in st c.segments (segment_row c s) h (le-leb (c.bytes + length s.prefix) (length pt) (omega (arith, (lies_first pool pt d k f s.prefix (tree_bytes s.tree) refl q).room))) (simp add-zero at t)

  pub segments_in_lem : (st : List ℕ) (c : Fill) (ss : List Segment) → all_of (λ s. all_of id_small s.tree.runs) ss ≡ true
      → Lies segments st c (sum segment_fill ss) (segments_laid c ss) → Lies runs rt c (sum segment_fill ss) (segments_runs_laid c ss)
      → Lies views vt c (sum segment_fill ss) (segments_views_laid c ss) → Lies pool pt c (sum segment_fill ss) (joined segment_bytes ss)
      → segments_placed (length pt) vt rt st (record { first = c.segments; count = length ss }) ≡ true
  unfolding segments_placed segments_laid segments_runs_laid segments_views_laid
  segments_in_lem st c ss a h r v p =
      both _ _
      (window_in c.segments (length ss) 12 (length st) (omega arith) (omega (arith, h.room, ap (λ (f : Fill). f.segments) (segments_fill ss))))
      (rows_good segment_fill (λ d. d.segments) (segment_placed (length pt) vt rt st)
      (λ d ss. (all_of (λ s. all_of id_small s.tree.runs) ss ≡ true) × (Lies segments st d (sum segment_fill ss) (column segment_rows d ss) × (Lies runs rt d (sum segment_fill ss) (column segment_runs d ss) × (Lies views vt d (sum segment_fill ss) (column segment_views d ss) × Lies pool pt d (sum segment_fill ss) (joined segment_bytes ss)))))
      (λ d s. rw (segment_fill_lem s) (omega arith))
      (λ d s ss g.
      let f = segment_fill s in
      let k = sum segment_fill ss in
      let e = plus d f in
      let w = and_each (all_of id_small s.tree.runs) (all_of (λ s. all_of id_small s.tree.runs) ss) g.0 in (
        segment_in_lem st d s w.0
            (lies_first segments st d f k (segment_rows.words d s) (column segment_rows e ss) (segment_rows.long d s) g.1.0).holds
            (lies_first runs rt d f k (segment_runs.words d s) (column segment_runs e ss) (segment_runs.long d s) g.1.1.0)
            (lies_first views vt d f k (segment_views.words d s) (column segment_views e ss) (segment_views.long d s) g.1.1.1.0)
            (lies_first pool pt d f k (segment_bytes s) (joined segment_bytes ss) (segment_bytes_long s) g.1.1.1.1),
        (
          w.1,
          (
            lies_rest segments st d f k (segment_rows.words d s) (column segment_rows e ss) (segment_rows.long d s) g.1.0,
            (
              lies_rest runs rt d f k (segment_runs.words d s) (column segment_runs e ss) (segment_runs.long d s) g.1.1.0,
              (
                lies_rest views vt d f k (segment_views.words d s) (column segment_views e ss) (segment_views.long d s) g.1.1.1.0,
                lies_rest pool pt d f k (segment_bytes s) (joined segment_bytes ss) (segment_bytes_long s) g.1.1.1.1,
              ),
            ),
          ),
        ),
      ))
      c ss (a, (h, (r, (v, p)))))

-- ---- borrows

module _ (bt it pt : List ℕ) where
  borrow_in_lem : (c : Fill) (b : Borrow) → Holds bt (c.borrows * 9) (borrow_words (borrow_row c b)) → Lies ids it c (borrow_fill b) (borrow_ids b) → Lies pool pt c (borrow_fill b) (borrow_path b)
      → borrow_placed (length pt) it bt c.borrows ≡ true
  unfolding borrow_placed borrow_row borrow_words borrow_fill
  borrow_in_lem c b h i p =
      let code : opened (get_or bt (c.borrows * 9 + 4) 0) true ≡ true = rw (holds_word bt (c.borrows * 9) (borrow_words (borrow_row c b)) h 4) (final_opens b.final) in
      let path : leb (c.bytes + length b.path) (length pt) ≡ true = le-leb (c.bytes + length b.path) (length pt) (omega (arith, p.room)) in
      let all : leb (c.ids + length b.ids) (length it / 2) ≡ true = window_in c.ids (length b.ids) 2 (length it) (omega arith) (omega (arith, i.room)) in
      rw (borrow_at_back bt c.borrows (borrow_row c b) h, code, path, all)

  pub borrows_in_lem : (c : Fill) (bs : List Borrow) → Lies borrows bt c (sum borrow_fill bs) (borrows_laid c bs) → Lies ids it c (sum borrow_fill bs) (joined borrow_ids bs) → Lies pool pt c (sum borrow_fill bs) (joined borrow_path bs)
      → borrows_placed (length pt) it bt (record { first = c.borrows; count = length bs }) ≡ true
  unfolding borrows_placed borrows_laid
  borrows_in_lem c bs h i p =
      both _ _
      (window_in c.borrows (length bs) 9 (length bt) (omega arith) (omega (arith, h.room, ap (λ (f : Fill). f.borrows) (borrows_fill bs))))
      (rows_good borrow_fill (λ d. d.borrows) (borrow_placed (length pt) it bt)
      (λ d bs. Lies borrows bt d (sum borrow_fill bs) (column borrow_rows d bs) × (Lies ids it d (sum borrow_fill bs) (joined borrow_ids bs) × Lies pool pt d (sum borrow_fill bs) (joined borrow_path bs)))
      (λ d b. rw (borrow_fill_lem b) (omega arith))
      (λ d b bs g.
      let f = borrow_fill b in
      let k = sum borrow_fill bs in
      let e = plus d f in (
        borrow_in_lem d b
            (lies_first borrows bt d f k (borrow_rows.words d b) (column borrow_rows e bs) (borrow_rows.long d b) g.0).holds
            (lies_first ids it d f k (borrow_ids b) (joined borrow_ids bs) (borrow_ids_long b) g.1.0)
            (lies_first pool pt d f k (borrow_path b) (joined borrow_path bs) (borrow_path_long b) g.1.1),
        (
          lies_rest borrows bt d f k (borrow_rows.words d b) (column borrow_rows e bs) (borrow_rows.long d b) g.0,
          (
            lies_rest ids it d f k (borrow_ids b) (joined borrow_ids bs) (borrow_ids_long b) g.1.0,
            lies_rest pool pt d f k (borrow_path b) (joined borrow_path bs) (borrow_path_long b) g.1.1,
          ),
        ),
      ))
      c bs (h, (i, p)))

pub name_in_lem : (n from : ℕ) (e : Extractor) → from + length (run (name_keys e)) ≤ n → name_placed n (name_row from e) ≡ true
name_in_lem n from none h = refl
name_in_lem n from (named k) h = le-leb (from + length k) n (rw (append-nil k) at h)

-- ---- the whole

module _ (l : Lent) (m : Manifest) (b : Begins l (layout m)) (room : (t : Table) → at t (manifest_fill m) ≤ length (table_of t l)) (small : all_of id_small m.tree.runs ≡ true) (smalls : all_of (λ s. all_of id_small s.tree.runs) m.segments ≡ true) where
  whole : (t : Table) (xs : List ℕ) → Holds (table_of t l) 0 xs → Lies t (table_of t l) empty (manifest_fill m) xs
  whole t xs h =
      record {
        holds = holds_place (table_of t l) 0 (at t empty) xs (sym (at_empty t)) h;
        room = rw (empty_plus (manifest_fill m)) (room t);
      }

  pub layout_placed : placed l (manifest_row m) ≡ true
  unfolding placed manifest_row layout manifest_fill
  layout_placed =
      let t = m.tree in
      let ss = m.segments in
      let ks = name_keys m.extractor in
      let bs = m.borrows in
      let ft = tree_fill t in
      let fs = sum segment_fill ss in
      let fk = sum key_fill ks in
      let fb = sum borrow_fill bs in
      let f₂ = plus fk fb in
      let f₁ = plus fs f₂ in
      let c = past_tree m in
      let d = past_segments m in
      let e = past_name m in
      let z : plus empty ft ≡ ft = empty_plus ft in
      let p₃ = joined borrow_path bs in
      let p₂ = run ks ++ p₃ in
      let p₁ = joined segment_bytes ss ++ p₂ in
      let lk : length (run ks) ≡ at pool fk = rw (keys_fill ks) in
      let ls : length (joined segment_bytes ss) ≡ at pool fs = rw (segments_fill ss) (omega arith) in
      let none : c.segments ≡ 0 = rw (tree_fill_lem t) (omega arith) in
      let none₂ : (e.borrows ≡ 0) × (e.ids ≡ 0) = rw (tree_fill_lem t, segments_fill ss, keys_fill ks) (omega arith) in
      let gs = whole segments (segments_laid c ss) b.segments in
      let gr = whole runs (tree_runs_laid empty t ++ segments_runs_laid c ss) b.runs in
      let gv = whole views (tree_views_laid empty t ++ segments_views_laid c ss) b.views in
      let gb = whole borrows (borrows_laid e bs) b.borrows in
      let gi = whole ids (joined borrow_ids bs) b.ids in
      let gp = whole pool (tree_bytes t ++ p₁) b.pool in
      let hp = lies_at pool l.pool (plus empty ft) c f₁ p₁ z (lies_rest pool l.pool empty ft f₁ (tree_bytes t) p₁ (tree_bytes_long t) gp) in
      let hq = lies_rest pool l.pool c fs f₂ (joined segment_bytes ss) p₂ ls hp in
      let tree = tree_in_lem l.runs l.views l.pool empty t small
      (lies_first runs l.runs empty ft f₁ (tree_runs_laid empty t) (segments_runs_laid c ss) (tree_runs_long empty t) gr)
      (lies_first views l.views empty ft f₁ (tree_views_laid empty t) (segments_views_laid c ss) (tree_views_long empty t) gv)
      (lies_first pool l.pool empty ft f₁ (tree_bytes t) p₁ (tree_bytes_long t) gp) in
      let segs = segments_in_lem l.runs l.views l.pool l.segments c ss smalls
      (lies_cut segments l.segments c fs f₂ (segments_laid c ss) (lies_at segments l.segments (plus empty ft) c f₁ (segments_laid c ss) z (lies_past segments l.segments empty ft f₁ (segments_laid c ss) (rw none (omega arith)) gs)))
      (lies_cut runs l.runs c fs f₂ (segments_runs_laid c ss) (lies_at runs l.runs (plus empty ft) c f₁ (segments_runs_laid c ss) z (lies_rest runs l.runs empty ft f₁ (tree_runs_laid empty t) (segments_runs_laid c ss) (tree_runs_long empty t) gr)))
      (lies_cut views l.views c fs f₂ (segments_views_laid c ss) (lies_at views l.views (plus empty ft) c f₁ (segments_views_laid c ss) z (lies_rest views l.views empty ft f₁ (tree_views_laid empty t) (segments_views_laid c ss) (tree_views_long empty t) gv)))
      (lies_first pool l.pool c fs f₂ (joined segment_bytes ss) p₂ ls hp) in
      let name = name_in_lem (length l.pool) d.bytes m.extractor (omega (arith, (lies_first pool l.pool d fk fb (run ks) p₃ lk hq).room, lk)) in
      let after : (x : Table) (xs : List ℕ) → at x ft ≡ 0 → at x fs ≡ 0 → at x fk ≡ 0 → Lies x (table_of x l) empty (plus ft f₁) xs → Lies x (table_of x l) e fb xs =
      λ x xs a₁ a₂ a₃ g. lies_past x (table_of x l) d fk fb xs a₃ (lies_past x (table_of x l) c fs f₂ xs a₂ (lies_at x (table_of x l) (plus empty ft) c f₁ xs z (lies_past x (table_of x l) empty ft f₁ xs a₁ g))) in
      let bors = borrows_in_lem l.borrows l.ids l.pool e bs
      (after borrows (borrows_laid e bs) (rw (tree_fill_lem t) (omega arith)) (rw (segments_fill ss) (omega arith)) (rw (keys_fill ks) (omega arith)) gb)
      (after ids (joined borrow_ids bs) (rw (tree_fill_lem t) (omega arith)) (rw (segments_fill ss) (omega arith)) (rw (keys_fill ks) (omega arith)) gi)
      (lies_rest pool l.pool d fk fb (run ks) p₃ lk hq) in
      both _ _ (both _ _ (both _ _ tree (rw none at segs)) name) (rw none₂.0 at bors)

-- ---- the run ids of a manifest that lies within its tables are of 32 bits

module _ (n : ℕ) (vt rt pt : List ℕ) where
  runs_small : (w : Window) → runs_placed n vt rt w ≡ true → all_of id_small (runs_in rt vt pt w) ≡ true
  unfolding runs_placed run_placed runs_in run_in
  runs_small w h =
      let k = and_each (lies_in w (length rt / 3)) (all_below (λ k. run_placed n vt rt (w.first + k)) w.count) h in
      all_up_to id_small (λ k. run_in vt pt (run_at rt (w.first + k))) (held_of w (length rt / 3))
      ∙ rw (← held_all w (length rt / 3) true (sym k.0) refl)
      (below_all (λ k. run_placed n vt rt (w.first + k)) (λ k. ltb (run_at rt (w.first + k)).id (2 ^ 32)) (λ k e. (and_each _ _ e).0) w.count k.1)

  tree_small_lem : (t : TreeRow) → tree_placed n vt rt t ≡ true → all_of id_small (tree_in rt vt pt t).runs ≡ true
  unfolding tree_placed tree_in
  tree_small_lem t h = runs_small t.compacted (and_each (views_placed n vt t.l0) (runs_placed n vt rt t.compacted) h).1

  segment_small_lem : (st : List ℕ) (i : ℕ) → segment_placed n vt rt st i ≡ true → all_of id_small (tree_in rt vt pt (segment_at st i).tree).runs ≡ true
  unfolding segment_placed
  segment_small_lem st i h =
      tree_small_lem (segment_at st i).tree
      (and_each (opened (get_or st (i * 12 + 2) 0) true && opened (get_or st (i * 12 + 5) 0) true && key_in n (segment_at st i).prefix) (tree_placed n vt rt (segment_at st i).tree) h).1

  segments_small : (st : List ℕ) (w : Window) → segments_placed n vt rt st w ≡ true → all_of (λ s. all_of id_small s.tree.runs) (segments_in st rt vt pt w) ≡ true
  unfolding segments_placed segments_in segment_in
  segments_small st w h =
      let k = and_each (lies_in w (length st / 12)) (all_below (λ k. segment_placed n vt rt st (w.first + k)) w.count) h in
      all_up_to (λ s. all_of id_small s.tree.runs) (λ k. segment_in rt vt pt (segment_at st (w.first + k))) (held_of w (length st / 12))
      ∙ rw (← held_all w (length st / 12) true (sym k.0) refl)
      (below_all (λ k. segment_placed n vt rt st (w.first + k)) (λ k. all_of id_small (tree_in rt vt pt (segment_at st (w.first + k)).tree).runs) (λ k e. segment_small_lem st (w.first + k) e) w.count k.1)

pub placed_small : (l : Lent) (m : ManifestRow) → placed l m ≡ true
    → (all_of id_small (manifest_in l m).tree.runs ≡ true) × (all_of (λ s. all_of id_small s.tree.runs) (manifest_in l m).segments ≡ true)
unfolding placed manifest_in
placed_small l m h =
    let n = length l.pool in
    let t = tree_placed n l.views l.runs m.tree in
    let s = segments_placed n l.views l.runs l.segments m.segments in
    let e = name_placed n m.segment_extractor_name in
    let b = borrows_placed n l.ids l.borrows m.external_dbs in
    let w = and_each t s (and_each (t && s) e (and_each (t && s && e) b h).0).0 in
    (tree_small_lem n l.views l.runs l.pool m.tree w.0, segments_small n l.views l.runs l.pool l.segments m.segments w.1)
