-- "Any lawful manifest writes to at most 65,536 bytes." Each record has a greatest number of bytes besides those of its keys, so what a
-- manifest writes to is bounded by what it fills. Assumes nothing.
use Rattle.std.specs.Prelude.{Err, None, Ok, Option, Some}
use mathlib.Core.Path.{◌≡◌, refl, ap, ◌∙◌}
use mathlib.Core.Bool.{Bool, true, false}
use mathlib.Core.List.{List, [], ◌∷◌, ◌++◌, map}
use Prim.Native.Nat.{ℕ, ◌+◌, ◌*◌, ◌≤◌, ◌<◌}
use native.Mathlib.Omega.{arith}
use lib.ListN.{length, length-append}
use Rattle.keys.proofs.Says.{says_true}
use Rattle.keys.specs.Range.{Edge, unbounded, included, excluded}
use Rattle.ids.specs.declared.SstId.{SstId}
use Rattle.records.specs.Model.{LastKey, unknown, known, Seen, all, only, View, Run, Tree, Segment, Borrow, Extractor, none, named, Manifest}
use Rattle.records.specs.Fill.{fits, ids, sum, key_fill, edge_keys, last_keys, seen_keys, view_fill, run_fill, tree_fill, segment_fill, borrow_fill, name_keys, manifest_fill}
use Rattle.records.specs.Limits.{limits01}
use Rattle.records.specs.declared.Fill.{Fill}
use Rattle.records.specs.declared.Limits.{Limits}
use Rattle.records.specs.declared.ManifestRow.{ManifestRow}
use Rattle.records.specs.Decode.{Lent, manifest_in}
use Rattle.measure.specs.Placed.{placed}
use Rattle.measure.specs.Within.{within}
use Rattle.measure.specs.Measure.{l1_of}
use Rattle.measure.proofs.Fits.{says_fits}
use Rattle.lawful.specs.Judge.{judged_of}
use Rattle.msgpack_put.specs.Write.{uint_bytes, int_bytes, flag_bytes, array_bytes, bin_bytes, id_part, group_bytes, concat}
use Rattle.msgpack_put.proofs.Puts.{flag_length}
use Rattle.msgpack_put.proofs.Sizes.{array_size, id_size}
use Rattle.manifest_write.specs.Bytes.{list_bytes, view_mark_bytes, sst_mark_bytes, final_bytes, sst_id_bytes, edge_bytes, seen_bytes, last_bytes, view_bytes, run_bytes, tree_bytes, segment_bytes, segments_bytes, borrow_bytes, name_bytes, manifest_bytes}
use Rattle.manifest_write.proofs.Heads.{uint_most, int_most, array_most, bin_most}
use Rattle.ids.specs.declared.ViewId.{ViewId}
use Rattle.ids.specs.declared.Uuid.{Uuid}

-- the most that some records write to, besides the heads of the lists that hold them
abbrev pub most : Fill → ℕ
most f = f.segments * 53 + f.views * 62 + f.runs * 15 + f.borrows * 47 + f.ids * 18 + f.bytes

-- ---- arrays of parts

abbrev pub total : List (List ℕ) → ℕ
total [] = 0
total (x ∷ l) = length x + total l

concat_total : (l : List (List ℕ)) → length (concat l) ≡ total l
unfolding concat
concat_total [] = refl
concat_total (x ∷ l) = length-append x (concat l) ∙ ap (λ (n : ℕ). length x + n) (concat_total l)

-- a record of fewer than 16 parts
pub record_total : (l : List (List ℕ)) → length l < 16 → length (group_bytes l) ≡ 1 + total l
record_total l h = omega (arith, length-append (array_bytes (length l)) (concat l), array_size (length l) h, concat_total l)

-- a list of records
list_most : {A : Type 0} (one : A → List ℕ) (fill : A → Fill) → ((x : A) → length (one x) ≤ most (fill x)) → (xs : List A) → length (list_bytes one xs) ≤ 5 + most (sum fill xs)
list_most {A} one fill h xs =
    omega (arith, length-append (array_bytes (length (map one xs))) (concat (map one xs)), array_most (length (map one xs)), concat_total (map one xs), go xs)
  where
    go : (ys : List A) → total (map one ys) ≤ most (sum fill ys)
    go [] = omega arith
    go (y ∷ ys) = omega (arith, h y, go ys)

keys_most : (a b : List (List ℕ)) → most (sum key_fill (a ++ b)) ≡ most (sum key_fill a) + most (sum key_fill b)
keys_most [] b = omega arith
keys_most (k ∷ a) b = omega (arith, keys_most a b)

-- ---- each record

keyed_most : (kind : ℕ) (k : List ℕ) → length (uint_bytes kind) ≡ 1 → length (group_bytes (uint_bytes kind ∷ bin_bytes k ∷ [])) ≤ 7 + most (sum key_fill (k ∷ []))
keyed_most kind k h = omega (arith, record_total (uint_bytes kind ∷ bin_bytes k ∷ []) (omega arith), bin_most k)

edge_most : (e : Edge) → length (edge_bytes e) ≤ 7 + most (sum key_fill (edge_keys e))
unfolding uint_bytes
edge_most unbounded = omega arith
edge_most (included k) = keyed_most 0 k refl
edge_most (excluded k) = keyed_most 1 k refl

seen_most : (s : Seen) → length (seen_bytes s) ≤ 15 + most (sum key_fill (seen_keys s))
seen_most all = omega arith
seen_most (only r) =
    omega (arith, record_total (edge_bytes r.start ∷ edge_bytes r.end ∷ []) (omega arith), edge_most r.start, edge_most r.end, keys_most (edge_keys r.start) (edge_keys r.end))

last_most : (k : LastKey) → length (last_bytes k) ≤ 5 + most (sum key_fill (last_keys k))
last_most unknown = omega arith
last_most (known k) = omega (arith, bin_most k)

view_most : (v : View) → length (view_bytes v) ≤ most (view_fill v)
unfolding view_bytes view_fill
view_most v =
    omega (
      arith,
      record_total (id_part v.id.0 v.id.1 ∷ id_part v.sst.0 v.sst.1 ∷ bin_bytes v.first ∷ last_bytes v.last ∷ seen_bytes v.visible ∷ []) (omega arith),
      id_size v.id.0 v.id.1,
      id_size v.sst.0 v.sst.1,
      bin_most v.first,
      last_most v.last,
      seen_most v.visible,
      keys_most (last_keys v.last) (seen_keys v.visible),
    )

run_most : (r : Run) → length (run_bytes r) ≤ most (run_fill r)
unfolding run_bytes run_fill
run_most r =
    omega (arith, record_total (uint_bytes r.id ∷ list_bytes view_bytes r.views ∷ []) (omega arith), uint_most r.id, list_most view_bytes view_fill view_most r.views)

view_mark_most : (x : Option ViewId) → length (view_mark_bytes x) ≤ 18
view_mark_most None = omega arith
view_mark_most (Some x) = omega (arith, id_size x.0 x.1)

sst_mark_most : (x : Option SstId) → length (sst_mark_bytes x) ≤ 18
sst_mark_most None = omega arith
sst_mark_most (Some x) = omega (arith, id_size x.0 x.1)

final_most : (x : Option Uuid) → length (final_bytes x) ≤ 18
final_most None = omega arith
final_most (Some x) = omega (arith, id_size x.0 x.1)

tree_most : (t : Tree) → length (tree_bytes t) ≤ 47 + most (tree_fill t)
unfolding tree_bytes tree_fill
tree_most t =
    omega (
      arith,
      record_total (view_mark_bytes t.view_mark ∷ sst_mark_bytes t.sst_mark ∷ list_bytes view_bytes t.l0 ∷ list_bytes run_bytes t.runs ∷ []) (omega arith),
      view_mark_most t.view_mark,
      sst_mark_most t.sst_mark,
      list_most view_bytes view_fill view_most t.l0,
      list_most run_bytes run_fill run_most t.runs,
    )

segment_most : (s : Segment) → length (segment_bytes s) ≤ most (segment_fill s)
unfolding segment_bytes segment_fill
segment_most s = omega (arith, record_total (bin_bytes s.prefix ∷ tree_bytes s.tree ∷ []) (omega arith), bin_most s.prefix, tree_most s.tree)

ids_most : (xs : List SstId) → length (list_bytes sst_id_bytes xs) ≤ 5 + length xs * 18
ids_most xs = omega (arith, list_most sst_id_bytes (λ x. ids 1) (λ x. omega (arith, id_size x.0 x.1)) xs, go xs)
  where
    go : (ys : List SstId) → most (sum (λ (x : SstId). ids 1) ys) ≡ length ys * 18
    go [] = omega arith
    go (y ∷ ys) = omega (arith, go ys)

borrow_most : (b : Borrow) → length (borrow_bytes b) ≤ most (borrow_fill b)
unfolding borrow_bytes borrow_fill
borrow_most b =
    omega (
      arith,
      record_total (bin_bytes b.path ∷ id_part b.source.0 b.source.1 ∷ final_bytes b.final ∷ list_bytes sst_id_bytes b.ids ∷ []) (omega arith),
      bin_most b.path,
      id_size b.source.0 b.source.1,
      final_most b.final,
      ids_most b.ids,
    )

name_most : (x : Extractor) → length (name_bytes x) ≤ 5 + most (sum key_fill (name_keys x))
name_most none = omega arith
name_most (named k) = omega (arith, bin_most k)

-- the segments part alone
pub segments_most : (ss : List Segment) → length (segments_bytes ss) ≤ 5 + most (sum segment_fill ss)
unfolding segments_bytes
segments_most ss = list_most segment_bytes segment_fill segment_most ss

pub manifest_most : (m : Manifest) → length (manifest_bytes m) ≤ 127 + most (manifest_fill m)
unfolding manifest_bytes manifest_fill
manifest_most m =
    omega (
      arith,
      record_total
          (flag_bytes m.initialized ∷ tree_bytes m.tree ∷ segments_bytes m.segments ∷ name_bytes m.extractor ∷ uint_bytes m.next_wal_sst_id ∷ uint_bytes m.replay_after_wal_id ∷ int_bytes m.last_l0_clock_tick ∷ uint_bytes m.last_l0_seq ∷ uint_bytes m.recent_snapshot_min_seq ∷ list_bytes borrow_bytes m.borrows ∷ uint_bytes m.writer_epoch ∷ uint_bytes m.compactor_epoch ∷ []) (omega arith),
      flag_length m.initialized,
      tree_most m.tree,
      segments_most m.segments,
      name_most m.extractor,
      uint_most m.next_wal_sst_id,
      uint_most m.replay_after_wal_id,
      int_most m.last_l0_clock_tick,
      uint_most m.last_l0_seq,
      uint_most m.recent_snapshot_min_seq,
      list_most borrow_bytes borrow_fill borrow_most m.borrows,
      uint_most m.writer_epoch,
      uint_most m.compactor_epoch,
    )

-- what fits L1's numbers: at most 127 + 64 * 53 + 512 * 62 + 128 * 15 + 32 * 47 + 512 * 18 + 8,192 = 56,095 bytes
pub fitting_most : (m : Manifest) → fits (manifest_fill m) limits01.fill ≡ true → length (manifest_bytes m) ≤ 65_536
unfolding limits01
fitting_most m h =
    let u = says_true (says_fits (manifest_fill m) limits01.fill) h in
    omega (arith, u.segments, u.views, u.runs, u.borrows, u.ids, u.bytes, manifest_most m)

within_fits : (lim : Limits) (m : Manifest) → within lim m ≡ true → fits (manifest_fill m) lim.fill ≡ true
unfolding within
within_fits lim m h = go (fits (manifest_fill m) lim.fill) refl
  where
    go : (a : Bool) → fits (manifest_fill m) lim.fill ≡ a → a ≡ true
    go true e = refl
    go false e = rw e at h

lawful_within : (lim : Limits) (l : Lent) (m : ManifestRow) → Ok tt ≡ judged_of lim l m → within lim (manifest_in l m) ≡ true
unfolding judged_of l1_of
lawful_within lim l m h = go (placed l m) (within lim (manifest_in l m)) refl refl
  where
    go : (a b : Bool) → placed l m ≡ a → within lim (manifest_in l m) ≡ b → b ≡ true
    go true true e f = refl
    go true false e f = let k : Ok tt ≡ Err 1 = rw (e, f) at h in let z : ◌≡◌ {A = ℕ} 0 1 = cc in absurd (omega arith)
    go false b e f = let k : Ok tt ≡ Err 1 = rw e at h in let z : ◌≡◌ {A = ℕ} 0 1 = cc in absurd (omega arith)

-- "Any lawful manifest writes to at most 65,536 bytes."
pub lawful_most : (l : Lent) (m : ManifestRow) → Ok tt ≡ judged_of limits01 l m → length (manifest_bytes (manifest_in l m)) ≤ 65_536
lawful_most l m h = fitting_most (manifest_in l m) (within_fits limits01 (manifest_in l m) (lawful_within limits01 l m h))
