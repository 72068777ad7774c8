-- One record of each kind: its row and bytes in place, and the cursor past it. Assumes nothing.
use Rattle.std.specs.Prelude.{None, Option, Some}
use mathlib.Core.Path.{◌≡◌, refl, sym, ap, ◌∙◌}
use mathlib.Core.List.{List, append-nil}
use Prim.Native.Nat.{ℕ, ◌+◌, ◌-◌, ◌*◌, ◌≤◌}
use native.Mathlib.Omega.{arith}
use native.Mathlib.Nat.{add-zero, zero-add}
use lib.ListN.{length}
use Rattle.tables.specs.Layout.{write, joined}
use Rattle.ids.specs.declared.SstId.{SstId}
use Rattle.tables.proofs.Writes.{write_none}
use Rattle.records.specs.Decode.{bytes_in, name_in}
use Rattle.records.specs.Model.{View, Run, Tree, Segment, Borrow}
use Rattle.records.specs.Words.{view_words, run_words, segment_words, borrow_words}
use Rattle.records.specs.Fill.{plus, sum, segments as one_segment, runs as one_run, ids as one_id, key_fill, name_keys, view_fill, run_fill, tree_fill, segment_fill, borrow_fill}
use Rattle.records.specs.Layout.{run, name_row, view_row, view_bytes, views_laid, run_row, run_bytes, runs_laid, runs_views_laid, tree_row, tree_bytes, tree_runs_laid, tree_views_laid, past_prefix, segment_row, segment_bytes, borrow_row}
use Rattle.records.specs.declared.Fill.{Fill}
use Rattle.emit.specs.declared.LaidView.{LaidView}
use Rattle.records.proofs.Columns.{view_fill_lem, views_fill, views_long, id_fill, ids_fill}
use Rattle.emit.proofs.Columns.{runs_counted, views_bytes_long, views_no_runs}
use Rattle.records.proofs.Sums.{fill_same, plus_assoc, plus_empty}
use Rattle.records.proofs.Laid.{views, runs, ids, pool, at}
use Rattle.emit.proofs.Laid.{put_then, put_skip}
use Rattle.records.specs.declared.Place.{Place}
use Rattle.records.specs.declared.TreeRow.{TreeRow}
use Rattle.emit.specs.declared.LaidName.{LaidName}
use Rattle.emit.specs.declared.LaidTree.{LaidTree}

module _ (c : Fill) (v : View) where
  pub keys_room : (d : List ℕ) → c.bytes + (view_fill v).bytes ≤ length d → c.bytes + length (view_bytes v) ≤ length d
  keys_room d h = let e = ap (λ (f : Fill). f.bytes) (view_fill_lem v) in omega arith

  pub view_room : (d : List ℕ) → (c.views + (view_fill v).views) * 16 ≤ length d → c.views * 16 + 16 ≤ length d
  view_room d h = let e = ap (λ (f : Fill). f.views) (view_fill_lem v) in omega arith

  module _ (l : LaidView) (e : l ≡ record { view = view_row c.bytes v; past = c.bytes + length (view_bytes v) }) where
    pub view_past : record { segments = c.segments; views = c.views + 1; runs = c.runs; borrows = c.borrows; ids = c.ids; bytes = l.past } ≡ plus c (view_fill v)
    view_past = rw (e, view_fill_lem v) (simp (add-zero, zero-add))

    pub view_row_lem : (row d d' : List ℕ) → row ≡ view_words l.view → d' ≡ write d (c.views * 16) row → d' ≡ write d (c.views * 16) (view_words (view_row c.bytes v))
    view_row_lem row d d' r w = w ∙ rw (r, e)

pub ruleset one_view = (keys_room, view_room, view_past, view_row_lem)

module _ (c : Fill) (r : Run) where
  module _ (to : Fill) (e : to ≡ plus c (sum view_fill r.views)) where
    pub run_row_room : (n : ℕ) → (c.runs + (run_fill r).runs) * 3 ≤ n → (c.views ≤ to.views) × (to.runs * 3 + 3 ≤ n)
    unfolding run_fill
    run_row_room n h = rw e (omega arith, omega arith)

    pub run_past : plus to (one_run 1) ≡ plus c (run_fill r)
    unfolding run_fill
    run_past = rw e (fill_same (omega arith))

    pub run_row_lem : (d d' : List ℕ) → d' ≡ write d (to.runs * 3) (run_words (record { id = r.id; views = record { first = c.views; count = to.views - c.views } })) → d' ≡ write d (c.runs * 3) (run_words (run_row c r))
    unfolding run_row
    run_row_lem d d' w =
        let k : to.runs ≡ c.runs = rw (e, views_fill r.views) (omega arith) in
        let n : to.views - c.views ≡ length r.views = rw (e, views_fill r.views) (omega arith) in
        w ∙ rw (k, n)

-- a tree: its L0 was laid from c to a, its runs from there to e
module _ (c : Fill) (t : Tree) (a : Fill) (p : a ≡ plus c (sum view_fill t.l0)) where
  pub tree_runs_lem : (d d' : List ℕ) → d' ≡ write d (at runs a) (runs_laid a t.runs) → d' ≡ write d (at runs c) (tree_runs_laid c t)
  unfolding tree_runs_laid
  tree_runs_lem d d' w = rw (← p) (put_skip runs c (sum view_fill t.l0) a d d' (runs_laid a t.runs) p (views_no_runs t.l0) w)

  pub tree_views_lem : (d d₁ d₂ : List ℕ) → at views (plus c (tree_fill t)) ≤ length d → d₁ ≡ write d (at views c) (views_laid c t.l0) → d₂ ≡ write d₁ (at views a) (runs_views_laid a t.runs) → d₂ ≡ write d (at views c) (tree_views_laid c t)
  unfolding tree_views_laid
  tree_views_lem d d₁ d₂ h w v = rw (← p) (put_then views c (sum view_fill t.l0) a (tree_fill t) d d₁ d₂ (views_laid c t.l0) (runs_views_laid a t.runs) h p (views_long c t.l0) w v)

  pub tree_bytes_lem : (d d₁ d₂ : List ℕ) → at pool (plus c (tree_fill t)) ≤ length d → d₁ ≡ write d (at pool c) (joined view_bytes t.l0) → d₂ ≡ write d₁ (at pool a) (joined run_bytes t.runs) → d₂ ≡ write d (at pool c) (tree_bytes t)
  unfolding tree_bytes
  tree_bytes_lem d d₁ d₂ h w v = put_then pool c (sum view_fill t.l0) a (tree_fill t) d d₁ d₂ (joined view_bytes t.l0) (joined run_bytes t.runs) h p (views_bytes_long t.l0) w v

  module _ (e : Fill) (q : e ≡ plus a (sum run_fill t.runs)) where
    pub tree_order : (c.views ≤ a.views) × (c.runs ≤ e.runs)
    tree_order = rw (q, p) (omega arith, omega arith)

    pub tree_laid : (r : TreeRow)
        → r ≡ record { view = t.view_mark; sst = t.sst_mark; l0 = record { first = c.views; count = a.views - c.views }; compacted = record { first = c.runs; count = e.runs - c.runs } }
        → ◌≡◌ {A = LaidTree} (record { tree = r; past = e }) (record { tree = tree_row c t; past = plus c (tree_fill t) })
    unfolding tree_row tree_fill
    tree_laid r h =
        let n : a.views - c.views ≡ length t.l0 = rw (p, views_fill t.l0) (omega arith) in
        let m : e.runs - c.runs ≡ length t.runs = rw (q, p, views_fill t.l0, runs_counted t.runs) (omega arith) in
        rw (h, n, m, q, p, plus_assoc c (sum view_fill t.l0) (sum run_fill t.runs))

-- a segment: its prefix was laid from c to a, its tree from there
pub prefix_past : (c : Fill) (k : List ℕ) (past : ℕ) → past ≡ c.bytes + length k → record { segments = c.segments + 1; views = c.views; runs = c.runs; borrows = c.borrows; ids = c.ids; bytes = past } ≡ plus (plus c (one_segment 1)) (key_fill k)
prefix_past c k past e = rw e (simp add-zero)

module _ (c : Fill) (s : Segment) (a : Fill) (p : a ≡ past_prefix c s) where
  abbrev pub prefix_fill : Fill
  prefix_fill = plus (one_segment 1) (key_fill s.prefix)

  pub segment_start : a ≡ plus c prefix_fill
  segment_start = p ∙ plus_assoc c (one_segment 1) (key_fill s.prefix)

  pub segment_runs_lem : (d d' : List ℕ) → d' ≡ write d (at runs a) (tree_runs_laid a s.tree) → d' ≡ write d (at runs c) (tree_runs_laid (past_prefix c s) s.tree)
  segment_runs_lem d d' w = rw (← p) (put_skip runs c prefix_fill a d d' (tree_runs_laid a s.tree) segment_start refl w)

  pub segment_views_lem : (d d' : List ℕ) → d' ≡ write d (at views a) (tree_views_laid a s.tree) → d' ≡ write d (at views c) (tree_views_laid (past_prefix c s) s.tree)
  segment_views_lem d d' w = rw (← p) (put_skip views c prefix_fill a d d' (tree_views_laid a s.tree) segment_start refl w)

  pub segment_bytes_lem : (d d₁ d₂ : List ℕ) → at pool (plus c (segment_fill s)) ≤ length d → d₁ ≡ write d (at pool c) s.prefix → d₂ ≡ write d₁ (at pool a) (tree_bytes s.tree) → d₂ ≡ write d (at pool c) (segment_bytes s)
  unfolding segment_bytes
  segment_bytes_lem d d₁ d₂ h w v = put_then pool c prefix_fill a (segment_fill s) d d₁ d₂ s.prefix (tree_bytes s.tree) h segment_start (omega arith) w v

  module _ (l : LaidTree) (e : l ≡ record { tree = tree_row a s.tree; past = plus a (tree_fill s.tree) }) where
    pub segment_past : l.past ≡ plus c (segment_fill s)
    unfolding segment_fill
    segment_past = rw (e, p) (plus_assoc (plus c (one_segment 1)) (key_fill s.prefix) (tree_fill s.tree) ∙ plus_assoc c (one_segment 1) (plus (key_fill s.prefix) (tree_fill s.tree)))

    pub segment_row_lem : (d d' : List ℕ) → d' ≡ write d (c.segments * 12) (segment_words (record { prefix = record { at = c.bytes; len = a.bytes - c.bytes }; tree = l.tree })) → d' ≡ write d (c.segments * 12) (segment_words (segment_row c s))
    unfolding segment_row tree_row
    segment_row_lem d d' w =
        let n : a.bytes - c.bytes ≡ length s.prefix = rw p (omega arith) in
        let v : a.views ≡ c.views = rw p (omega arith) in
        let r : a.runs ≡ c.runs = rw p (omega arith) in
        w ∙ rw (e, n, v, r)

-- ---- ids

pub ids_room : (c : Fill) (xs : List SstId) (n : ℕ) → (c.ids + length xs) * 2 ≤ n → at ids (plus c (sum id_fill xs)) ≤ n
ids_room c xs n h = rw (ids_fill xs) h

pub ids_past : (q c : Fill) (xs : List SstId) → q ≡ plus c (sum id_fill xs) → q ≡ plus c (one_id (length xs))
ids_past q c xs e = e ∙ ap (λ (f : Fill). plus c f) (ids_fill xs)

-- ---- the name

module _ (p : List ℕ) (c : Fill) (d : List ℕ) (n : Option Place) where
  abbrev NameLaid : LaidName → List ℕ → Type 0
  NameLaid q d' = (q ≡ record { name = name_row c.bytes (name_in p n); past = plus c (sum key_fill (name_keys (name_in p n))) }) × (d' ≡ write d c.bytes (run (name_keys (name_in p n))))

  pub name_absent : n ≡ None → NameLaid (record { name = None; past = c }) d
  name_absent t = rw t (ap (λ (f : Fill). record { name = None; past = f }) (sym (plus_empty c)), sym (write_none d c.bytes))

  module _ (k : Place) (t : n ≡ Some k) where
    pub name_room : c.bytes + (sum key_fill (name_keys (name_in p n))).bytes ≤ length d → c.bytes + length (bytes_in p k) ≤ length d
    name_room h = let r = rw t at h in omega arith

    pub name_named : (past : ℕ) (d' : List ℕ) → past ≡ c.bytes + length (bytes_in p k) → d' ≡ write d c.bytes (bytes_in p k)
        → NameLaid (record { name = Some (record { at = c.bytes; len = past - c.bytes }); past = record { segments = c.segments; views = c.views; runs = c.runs; borrows = c.borrows; ids = c.ids; bytes = past } }) d'
    name_named past d' e w =
        let m : past - c.bytes ≡ length (bytes_in p k) = omega arith in
        rw (t, append-nil (bytes_in p k), m, e) (simp add-zero, w)

-- ---- a borrow: its path was laid from c to `past`, its ids from c to `to`

module _ (c : Fill) (b : Borrow) (past : ℕ) (e : past ≡ c.bytes + length b.path) (to : Fill) (p : to ≡ plus c (one_id (length b.ids))) where
  pub borrow_past : record { segments = c.segments; views = c.views; runs = c.runs; borrows = c.borrows + 1; ids = to.ids; bytes = past } ≡ plus c (borrow_fill b)
  unfolding borrow_fill
  borrow_past = rw (p, e) (simp (add-zero, zero-add))

  pub borrow_row_lem : (d d' : List ℕ)
      → d' ≡ write d (c.borrows * 9) (borrow_words (record { path = record { at = c.bytes; len = past - c.bytes }; source = b.source; fin = b.final; ids = record { first = c.ids; count = to.ids - c.ids } }))
      → d' ≡ write d (c.borrows * 9) (borrow_words (borrow_row c b))
  unfolding borrow_row
  borrow_row_lem d d' w =
      let n : past - c.bytes ≡ length b.path = omega arith in
      let m : to.ids - c.ids ≡ length b.ids = rw p (omega arith) in
      w ∙ rw (n, m)
