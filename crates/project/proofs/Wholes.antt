-- The result laid out: its trees, its name and what is left of its borrows. Assumes nothing.
use Rattle.std.specs.Prelude.{Option}
use Prim.Native.Nat.{ℕ, ◌+◌, ◌*◌, ◌≤◌}
use mathlib.Core.Path.{◌≡◌, ap, ◌∙◌}
use mathlib.Core.List.{List, ◌++◌}
use native.Mathlib.Omega.{arith}
use lib.ListN.{length}
use Rattle.ids.specs.declared.SstId.{SstId}
use Rattle.tables.specs.Layout.{write, joined}
use Rattle.records.specs.Model.{Tree, Segment, Borrow, Extractor, Manifest}
use Rattle.records.specs.Fill.{plus, sum, key_fill, name_keys, tree_fill, segment_fill, borrow_fill, manifest_fill}
use Rattle.records.specs.Layout.{run, tree_row, name_row, borrows_laid, borrow_ids, borrow_path, manifest_row_at}
use Rattle.records.specs.Decode.{Lent, manifest_in}
use Rattle.records.specs.declared.Fill.{Fill}
use Rattle.records.specs.declared.ManifestRow.{ManifestRow}
use Rattle.records.proofs.Columns.{keys_fill, tree_fill_lem, segments_fill, borrows_fill}
use Rattle.emit.specs.declared.LaidTree.{LaidTree}
use Rattle.prune.specs.Prune.{pruned}
use Rattle.project.specs.Project.{with_trees}
use Rattle.records.specs.declared.Place.{Place}

-- ---- the name and the borrows, laid from c on

abbrev pub RestRoom : Fill → ℕ → ℕ → ℕ → Extractor → List Borrow → Type 0
RestRoom c l m n x bs =
    ((c.borrows + (plus (sum key_fill (name_keys x)) (sum borrow_fill bs)).borrows) * 9 ≤ l)
    × (((c.ids + (plus (sum key_fill (name_keys x)) (sum borrow_fill bs)).ids) * 2 ≤ m) × (c.bytes + (plus (sum key_fill (name_keys x)) (sum borrow_fill bs)).bytes ≤ n))

abbrev pub RestLaid : Fill → Option Place → List ℕ → List ℕ → List ℕ → List ℕ → List ℕ → List ℕ → Extractor → List Borrow → Type 0
RestLaid c q b b' i i' p p' x bs =
    (q ≡ name_row c.bytes x)
    × ((b' ≡ write b (c.borrows * 9) (borrows_laid (plus c (sum key_fill (name_keys x))) bs))
    × ((i' ≡ write i (c.ids * 2) (joined borrow_ids bs)) × (p' ≡ write p c.bytes (run (name_keys x) ++ joined borrow_path bs))))

-- the ids in use, by another name
module _ (us vs : List SstId) (e : us ≡ vs) (bs : List Borrow) (c : Fill) (x : Extractor) where
  pub rest_room_used : (l m n : ℕ) → RestRoom c l m n x (pruned vs bs) → RestRoom c l m n x (pruned us bs)
  rest_room_used l m n h = rw e h

  pub rest_laid_used : (q : Option Place) (b b' i i' p p' : List ℕ) → RestLaid c q b b' i i' p p' x (pruned us bs) → RestLaid c q b b' i i' p p' x (pruned vs bs)
  rest_laid_used q b b' i i' p p' h = rw (← e) h

-- ---- the whole

pub segments_filled : (m : Manifest) → (manifest_fill m).segments ≡ length m.segments
unfolding manifest_fill
segments_filled m =
    let t = ap (λ (f : Fill). f.segments) (tree_fill_lem m.tree) in
    let s = ap (λ (f : Fill). f.segments) (segments_fill m.segments) in
    let n = ap (λ (f : Fill). f.segments) (keys_fill (name_keys m.extractor)) in
    let b = ap (λ (f : Fill). f.segments) (borrows_fill m.borrows) in
    omega arith

pub borrows_filled : (m : Manifest) → (manifest_fill m).borrows ≡ length m.borrows
unfolding manifest_fill
borrows_filled m =
    let t = ap (λ (f : Fill). f.borrows) (tree_fill_lem m.tree) in
    let s = ap (λ (f : Fill). f.borrows) (segments_fill m.segments) in
    let n = ap (λ (f : Fill). f.borrows) (keys_fill (name_keys m.extractor)) in
    let b = ap (λ (f : Fill). f.borrows) (borrows_fill m.borrows) in
    omega arith

-- a row like m's for these trees and borrows, laid from c on
pub row_laid : (x : Lent) (m : ManifestRow) (t : Tree) (ss : List Segment) (bs : List Borrow) (c : Fill) (l : LaidTree) (name : Option Place) (i j : ℕ) (r : ManifestRow)
    → l ≡ record { tree = tree_row c t; past = plus c (plus (tree_fill t) (sum segment_fill ss)) } → name ≡ name_row l.past.bytes (manifest_in x m).extractor → i ≡ length ss → j ≡ length bs
    → r ≡ record {
      initialized = m.initialized;
      tree = l.tree;
      segments = record { first = c.segments; count = i };
      segment_extractor_name = name;
      next_wal_sst_id = m.next_wal_sst_id;
      replay_after_wal_id = m.replay_after_wal_id;
      last_l0_clock_tick = m.last_l0_clock_tick;
      last_l0_seq = m.last_l0_seq;
      recent_snapshot_min_seq = m.recent_snapshot_min_seq;
      external_dbs = record { first = c.borrows; count = j };
      writer_epoch = m.writer_epoch;
      compactor_epoch = m.compactor_epoch;
    }
    → r ≡ manifest_row_at c (with_trees (manifest_in x m) t ss bs)
unfolding manifest_in manifest_row_at
row_laid x m t ss bs c l name i j r e q hi hj h = h ∙ rw (q, e, hi, hj)
