-- The bytes of a manifest: "Records are arrays in the order above; absent is nil; ids, keys, names and paths are bin; a visible
-- range is [start, end], a bound nil, [0, key] included or [1, key] excluded."
use Rattle.std.specs.Prelude.{ℕ, List, [], ◌∷◌, map, None, Option, Some}
use Rattle.keys.specs.Range.{Edge, unbounded, included, excluded}
use Rattle.ids.specs.declared.SstId.{SstId}
use Rattle.records.specs.Model.{LastKey, unknown, known, Seen, all, only, View, Run, Tree, Segment, Borrow, Extractor, none, named, Manifest}
use Rattle.msgpack_put.specs.Write.{uint_bytes, int_bytes, flag_bytes, nil_bytes, bin_bytes, id_part, group_bytes}
use Rattle.ids.specs.declared.ViewId.{ViewId}
use Rattle.ids.specs.declared.Uuid.{Uuid}

-- a list of records, each written in turn
abbrev pub list_bytes : {A : Type 0} → (A → List ℕ) → List A → List ℕ
list_bytes one xs = group_bytes (map one xs)

-- an id or nil, whatever type holds the id: `halves` gives its two halves
abbrev pub mark_bytes : {A : Type 0} → (A → ℕ × ℕ) → Option A → List ℕ
mark_bytes halves None = nil_bytes
mark_bytes halves (Some x) = id_part (halves x).0 (halves x).1

abbrev pub view_mark_bytes : Option ViewId → List ℕ
view_mark_bytes = mark_bytes λ x. (x.0, x.1)

abbrev pub sst_mark_bytes : Option SstId → List ℕ
sst_mark_bytes = mark_bytes λ x. (x.0, x.1)

abbrev pub final_bytes : Option Uuid → List ℕ
final_bytes = mark_bytes λ x. (x.0, x.1)

abbrev pub sst_id_bytes : SstId → List ℕ
sst_id_bytes x = id_part x.0 x.1

-- "a bound nil, [0, key] included or [1, key] excluded"
abbrev pub edge_bytes : Edge → List ℕ
edge_bytes unbounded = nil_bytes
edge_bytes (included k) = group_bytes (uint_bytes 0 ∷ bin_bytes k ∷ [])
edge_bytes (excluded k) = group_bytes (uint_bytes 1 ∷ bin_bytes k ∷ [])

-- "a visible range is [start, end]"
abbrev pub seen_bytes : Seen → List ℕ
seen_bytes all = nil_bytes
seen_bytes (only r) = group_bytes (edge_bytes r.start ∷ edge_bytes r.end ∷ [])

abbrev pub last_bytes : LastKey → List ℕ
last_bytes unknown = nil_bytes
last_bytes (known k) = bin_bytes k

-- "View: view id, SST id, first key, last key or unknown, visible range or none."
unfoldable pub view_bytes : View → List ℕ
view_bytes v =
    group_bytes (id_part v.id.0 v.id.1 ∷ id_part v.sst.0 v.sst.1 ∷ bin_bytes v.first ∷ last_bytes v.last ∷ seen_bytes v.visible ∷ [])

-- "Run: u32 id, views."
unfoldable pub run_bytes : Run → List ℕ
run_bytes r = group_bytes (uint_bytes r.id ∷ list_bytes view_bytes r.views ∷ [])

-- "Tree: optional view watermark, optional SST watermark, L0 views in order, runs in order."
unfoldable pub tree_bytes : Tree → List ℕ
tree_bytes t = group_bytes (view_mark_bytes t.view_mark ∷ sst_mark_bytes t.sst_mark ∷ list_bytes view_bytes t.l0 ∷ list_bytes run_bytes t.runs ∷ [])

-- "Segment: prefix, tree."
unfoldable pub segment_bytes : Segment → List ℕ
segment_bytes s = group_bytes (bin_bytes s.prefix ∷ tree_bytes s.tree ∷ [])

-- the segments part, which the merges' results are
unfoldable pub segments_bytes : List Segment → List ℕ
segments_bytes ss = list_bytes segment_bytes ss

-- "Borrow (`ExternalDb`): path, source checkpoint, optional final checkpoint, SST ids."
unfoldable pub borrow_bytes : Borrow → List ℕ
borrow_bytes b = group_bytes (bin_bytes b.path ∷ id_part b.source.0 b.source.1 ∷ final_bytes b.final ∷ list_bytes sst_id_bytes b.ids ∷ [])

abbrev pub name_bytes : Extractor → List ℕ
name_bytes none = nil_bytes
name_bytes (named k) = bin_bytes k

-- "Manifest: initialized, unsegmented tree, segments, extractor name or none, next_wal_sst_id, replay_after_wal_id,
-- last_l0_clock_tick (i64), last_l0_seq, recent_snapshot_min_seq, borrows, writer epoch, compactor epoch."
unfoldable pub manifest_bytes : Manifest → List ℕ
manifest_bytes m =
    group_bytes
    (flag_bytes m.initialized ∷ tree_bytes m.tree ∷ segments_bytes m.segments ∷ name_bytes m.extractor
    ∷ uint_bytes m.next_wal_sst_id ∷ uint_bytes m.replay_after_wal_id ∷ int_bytes m.last_l0_clock_tick ∷ uint_bytes m.last_l0_seq
    ∷ uint_bytes m.recent_snapshot_min_seq ∷ list_bytes borrow_bytes m.borrows ∷ uint_bytes m.writer_epoch ∷ uint_bytes m.compactor_epoch ∷ [])
