-- A manifest laid out from a cursor on, behind what was laid before: it reads back, wherever it stands. Assumes nothing.
use Prim.Native.Nat.{ℕ, ◌*◌, ◌≤◌}
use mathlib.Core.Path.{◌≡◌, sym, ap, ◌∙◌}
use mathlib.Core.List.{List, ◌++◌}
use native.Mathlib.Omega.{arith}
use native.Mathlib.Nat.{zero-add}
use lib.ListN.{length, length-append}
use Rattle.tables.specs.Layout.{joined}
use Rattle.tables.proofs.Holds.{Holds, holds_first, holds_rest, holds_place}
use Rattle.records.specs.Model.{Manifest}
use Rattle.records.specs.Decode.{Lent, tree_in, segments_in, name_in, borrows_in, manifest_in}
use Rattle.records.specs.Fill.{empty, plus, name_keys, borrow_fill, manifest_fill}
use Rattle.records.specs.Layout.{run, tree_row, tree_bytes, tree_views_laid, tree_runs_laid, segment_bytes, segments_laid, segments_views_laid, segments_runs_laid, name_row, borrows_laid, borrow_ids, borrow_path, past_tree, past_segments, past_name, manifest_row, layout, manifest_row_at, layout_at}
use Rattle.records.specs.declared.Fill.{Fill}
use Rattle.records.proofs.Laid.{Table, segments, views, runs, borrows, ids, pool, at, column_long, laid_joined}
use Rattle.records.proofs.Columns.{keys_fill, tree_fill_lem, tree_views_long, tree_runs_long, tree_bytes_long, segments_fill, segment_rows, segment_views, segment_runs, borrows_fill, borrow_rows, borrow_id_rows}
use Rattle.records.proofs.Bytes.{name_back}
use Rattle.records.proofs.Lists.{tree_back, segments_back, borrows_back}

abbrev pub table_of : Table → Lent → List ℕ
table_of segments l = l.segments
table_of views l = l.views
table_of runs l = l.runs
table_of borrows l = l.borrows
table_of ids l = l.ids
table_of pool l = l.pool

-- ---- at the front is behind nothing

pub row_front : (m : Manifest) → manifest_row_at empty m ≡ manifest_row m
unfolding manifest_row_at manifest_row
row_front m = simp zero-add

pub layout_front : (m : Manifest) → layout_at empty m ≡ layout m
unfolding layout_at layout
layout_front m = simp zero-add

-- ---- what a manifest fills is what its layout takes, wherever it stands

pub layout_at_long : (t : Table) (c : Fill) (m : Manifest) → length (table_of t (layout_at c m)) ≡ at t (manifest_fill m)
unfolding layout_at manifest_fill segments_laid segments_views_laid segments_runs_laid borrows_laid
layout_at_long segments c m =
    column_long segment_rows (plus c (past_tree m)) m.segments
    ∙ rw (tree_fill_lem m.tree, keys_fill (name_keys m.extractor), borrows_fill m.borrows) (omega arith)
layout_at_long views c m =
    rw (length-append, tree_views_long c m.tree, column_long segment_views (plus c (past_tree m)) m.segments, keys_fill (name_keys m.extractor), borrows_fill m.borrows)
    (omega arith)
layout_at_long runs c m =
    rw (length-append, tree_runs_long c m.tree, column_long segment_runs (plus c (past_tree m)) m.segments, keys_fill (name_keys m.extractor), borrows_fill m.borrows)
    (omega arith)
layout_at_long borrows c m =
    column_long borrow_rows (plus c (past_name m)) m.borrows
    ∙ rw (tree_fill_lem m.tree, segments_fill m.segments, keys_fill (name_keys m.extractor)) (omega arith)
layout_at_long ids c m =
    ap length (sym (laid_joined borrow_fill borrow_ids empty m.borrows)) ∙ column_long borrow_id_rows empty m.borrows
    ∙ rw (tree_fill_lem m.tree, segments_fill m.segments, keys_fill (name_keys m.extractor)) (omega arith)
layout_at_long pool c m =
    simp (length-append, tree_bytes_long m.tree, segments_fill m.segments, keys_fill (name_keys m.extractor), borrows_fill m.borrows)
    (omega arith)

-- ---- decoding

-- from cursor c on, each table of l holds that of k
abbrev pub HoldsFrom : Fill → Lent → Lent → Type 0
HoldsFrom c l k = (t : Table) → Holds (table_of t l) (at t c) (table_of t k)

-- tables that hold a manifest's layout from a cursor on hold that manifest
pub manifest_at_back : (l : Lent) (a : Fill) (m : Manifest) → HoldsFrom a l (layout_at a m) → manifest_in l (manifest_row_at a m) ≡ m
unfolding layout_at manifest_in manifest_row_at
manifest_at_back l a m b =
    let t = m.tree in
    let ss = m.segments in
    let c = plus a (past_tree m) in
    let d = plus a (past_segments m) in
    let e = plus a (past_name m) in
    let bytes₃ = joined borrow_path m.borrows in
    let bytes₂ = run (name_keys m.extractor) ++ bytes₃ in
    let bytes₁ = joined segment_bytes ss ++ bytes₂ in
    let p₁ : Holds l.pool c.bytes bytes₁ = holds_rest l.pool a.bytes (tree_bytes t) bytes₁ c.bytes (rw (tree_bytes_long t)) (b pool) in
    let p₂ : Holds l.pool d.bytes bytes₂ = holds_rest l.pool c.bytes (joined segment_bytes ss) bytes₂ d.bytes (rw (segments_fill ss) (omega arith)) p₁ in
    let p₃ : Holds l.pool e.bytes bytes₃ = holds_rest l.pool d.bytes (run (name_keys m.extractor)) bytes₃ e.bytes (rw (keys_fill (name_keys m.extractor)) (omega arith)) p₂ in
    let none : c.segments ≡ a.segments = rw (tree_fill_lem t) (omega arith) in
    let none₂ : (e.borrows ≡ a.borrows) × (e.ids ≡ a.ids) = rw (tree_fill_lem t, segments_fill ss, keys_fill (name_keys m.extractor)) (omega arith) in
    let tree : tree_in l.runs l.views l.pool (tree_row a t) ≡ t =
    tree_back l.runs l.views l.pool a t
    (holds_first l.runs (a.runs * 3) (tree_runs_laid a t) (segments_runs_laid c ss) (b runs))
    (holds_first l.views (a.views * 16) (tree_views_laid a t) (segments_views_laid c ss) (b views))
    (holds_first l.pool a.bytes (tree_bytes t) bytes₁ (b pool)) in
    let segs : segments_in l.segments l.runs l.views l.pool (record { first = c.segments; count = length ss }) ≡ ss =
    segments_back l.segments l.runs l.views l.pool c ss
    (holds_place l.segments (a.segments * 12) (c.segments * 12) (segments_laid c ss) (rw none) (b segments))
    (holds_rest l.runs (a.runs * 3) (tree_runs_laid a t) (segments_runs_laid c ss) (c.runs * 3) (rw (tree_runs_long a t) (omega arith)) (b runs))
    (holds_rest l.views (a.views * 16) (tree_views_laid a t) (segments_views_laid c ss) (c.views * 16) (rw (tree_views_long a t) (omega arith)) (b views))
    (holds_first l.pool c.bytes (joined segment_bytes ss) bytes₂ p₁) in
    let name : name_in l.pool (name_row d.bytes m.extractor) ≡ m.extractor =
    name_back l.pool d.bytes m.extractor (holds_first l.pool d.bytes (run (name_keys m.extractor)) bytes₃ p₂) in
    let bors : borrows_in l.borrows l.ids l.pool (record { first = e.borrows; count = length m.borrows }) ≡ m.borrows =
    borrows_back l.borrows l.ids l.pool e m.borrows
    (holds_place l.borrows (a.borrows * 9) (e.borrows * 9) (borrows_laid e m.borrows) (rw none₂.0) (b borrows))
    (holds_place l.ids (a.ids * 2) (e.ids * 2) (joined borrow_ids m.borrows) (rw none₂.1) (b ids))
    p₃ in
    rw (tree, rw none at segs, name, rw none₂.0 at bors)

-- m stands laid out in the tables l from cursor c on, all of it within them
pub record Stands (c : Fill) (m : Manifest) (l : Lent) : Type 0 where
  pub holds : HoldsFrom c l (layout_at c m)
  pub room : (t : Table) → at t (plus c (manifest_fill m)) ≤ length (table_of t l)

-- what stands in tables is what they hold
pub stands_decode : (c : Fill) (m : Manifest) (l : Lent) → Stands c m l → manifest_in l (manifest_row_at c m) ≡ m
stands_decode c m l s = manifest_at_back l c m s.holds
