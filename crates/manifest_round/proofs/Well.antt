-- What is written of a manifest is well-formed by the public specification, and no deeper than 16. Assumes nothing.
use Rattle.std.specs.Prelude.{None, Ok, Option, Some}
use Prim.Native.Nat.{ℕ, suc}
use mathlib.Core.Path.{◌≡◌}
use mathlib.Core.List.{List, [], ◌∷◌, map}
use lib.Dec.{lit<}
use lib.ListN.{length-map}
use native.Mathlib.Omega.{arith}
use Rattle.keys.specs.Range.{Edge, unbounded, included, excluded}
use Rattle.records.specs.Model.{LastKey, unknown, known, Seen, all, only, View, Run, Tree, Segment, Borrow, Extractor, none, named, Manifest}
use Rattle.msgpack.specs.Skip.{whole_of}
use Rattle.msgpack_put.specs.Write.{uint_bytes, int_bytes, flag_bytes, bin_bytes, id_part}
use Rattle.msgpack_put.proofs.Well.{Well, Wells, well_uint, well_int, well_flag, well_nil, well_bin, well_id, well_group, well_whole}
use Rattle.manifest_write.specs.Bytes.{list_bytes, view_mark_bytes, sst_mark_bytes, final_bytes, sst_id_bytes, edge_bytes, seen_bytes, last_bytes, view_bytes, run_bytes, tree_bytes, segment_bytes, segments_bytes, borrow_bytes, name_bytes, manifest_bytes}
use Rattle.manifest_round.specs.Fits.{EdgeFits, SeenFits, LastFits, NameFits, AllFit, ListFits, ViewFits, RunFits, TreeFits, SegmentFits, IdFits, BorrowFits, ManifestFits}
use Rattle.ids.specs.declared.ViewId.{ViewId}
use Rattle.ids.specs.declared.SstId.{SstId}
use Rattle.ids.specs.declared.Uuid.{Uuid}

well_view_mark : (r : ℕ) (m : Option ViewId) → Well r (view_mark_bytes m)
well_view_mark r None = well_nil r
well_view_mark r (Some x) = well_id r x.0 x.1

well_sst_mark : (r : ℕ) (m : Option SstId) → Well r (sst_mark_bytes m)
well_sst_mark r None = well_nil r
well_sst_mark r (Some x) = well_id r x.0 x.1

well_final : (r : ℕ) (f : Option Uuid) → Well r (final_bytes f)
well_final r None = well_nil r
well_final r (Some x) = well_id r x.0 x.1

well_last : (r : ℕ) (l : LastKey) → LastFits l → Well r (last_bytes l)
well_last r unknown h = well_nil r
well_last r (known k) h = well_bin r k h

well_name : (r : ℕ) (n : Extractor) → NameFits n → Well r (name_bytes n)
well_name r none h = well_nil r
well_name r (named k) h = well_bin r k h

well_list : {A : Type 0} (r : ℕ) (bytes : A → List ℕ) (P : A → Type 0) → ((x : A) → P x → Well r (bytes x)) → (xs : List A) → ListFits P xs → Well (suc r) (list_bytes bytes xs)
well_list {A = A} r bytes P one xs f = well_group r (map bytes xs) (rw (length-map xs bytes) f.short) (each xs f.each)
  where
    each : (xs : List A) → AllFit P xs → Wells r (map bytes xs)
    each [] f = tt
    each (x ∷ xs) f = (one x f.0, each xs f.1)

well_edge : (r : ℕ) (e : Edge) → EdgeFits e → Well (suc r) (edge_bytes e)
well_edge r unbounded h = well_nil (suc r)
well_edge r (included k) h = well_group r (uint_bytes 0 ∷ bin_bytes k ∷ []) (lit< tt) (well_uint r 0 (lit< tt), (well_bin r k h, tt))
well_edge r (excluded k) h = well_group r (uint_bytes 1 ∷ bin_bytes k ∷ []) (lit< tt) (well_uint r 1 (lit< tt), (well_bin r k h, tt))

well_seen : (r : ℕ) (x : Seen) → SeenFits x → Well (suc (suc r)) (seen_bytes x)
well_seen r all h = well_nil (suc (suc r))
well_seen r (only e) h = well_group (suc r) (edge_bytes e.start ∷ edge_bytes e.end ∷ []) (lit< tt) (well_edge r e.start h.0, (well_edge r e.end h.1, tt))

well_view : (r : ℕ) (v : View) → ViewFits v → Well (suc (suc (suc r))) (view_bytes v)
unfolding view_bytes
well_view r v f =
    let q = suc (suc r) in
    well_group q (id_part v.id.0 v.id.1 ∷ id_part v.sst.0 v.sst.1 ∷ bin_bytes v.first ∷ last_bytes v.last ∷ seen_bytes v.visible ∷ []) (lit< tt) (well_id q v.id.0 v.id.1, (well_id q v.sst.0 v.sst.1, (well_bin q v.first f.first, (well_last q v.last f.last, (well_seen r v.visible f.visible, tt)))))

well_run : (r : ℕ) (x : Run) → RunFits x → Well (suc (suc (suc (suc (suc r))))) (run_bytes x)
unfolding run_bytes
well_run r x f =
    let q = suc (suc (suc (suc r))) in
    let h = f.id in
    well_group q (uint_bytes x.id ∷ list_bytes view_bytes x.views ∷ []) (lit< tt) (well_uint q x.id (omega arith), (well_list (suc (suc (suc r))) view_bytes ViewFits (well_view r) x.views f.views, tt))

well_tree : (r : ℕ) (t : Tree) → TreeFits t → Well (suc (suc (suc (suc (suc (suc (suc r))))))) (tree_bytes t)
unfolding tree_bytes
well_tree r t f =
    let q = suc (suc (suc (suc (suc (suc r))))) in
    well_group q (view_mark_bytes t.view_mark ∷ sst_mark_bytes t.sst_mark ∷ list_bytes view_bytes t.l0 ∷ list_bytes run_bytes t.runs ∷ []) (lit< tt)
    (well_view_mark q t.view_mark, (well_sst_mark q t.sst_mark, (well_list (suc (suc (suc (suc (suc r))))) view_bytes ViewFits (well_view (suc (suc r))) t.l0 f.l0, (well_list (suc (suc (suc (suc (suc r))))) run_bytes RunFits (well_run r) t.runs f.runs, tt))))

well_segment : (r : ℕ) (g : Segment) → SegmentFits g → Well (suc (suc (suc (suc (suc (suc (suc (suc r)))))))) (segment_bytes g)
unfolding segment_bytes
well_segment r g f =
    let q = suc (suc (suc (suc (suc (suc (suc r)))))) in
    well_group q (bin_bytes g.prefix ∷ tree_bytes g.tree ∷ []) (lit< tt) (well_bin q g.prefix f.prefix, (well_tree r g.tree f.tree, tt))

well_borrow : (r : ℕ) (b : Borrow) → BorrowFits b → Well (suc (suc r)) (borrow_bytes b)
unfolding borrow_bytes
well_borrow r b f =
    let q = suc r in
    well_group q (bin_bytes b.path ∷ id_part b.source.0 b.source.1 ∷ final_bytes b.final ∷ list_bytes sst_id_bytes b.ids ∷ []) (lit< tt)
    (well_bin q b.path f.path, (well_id q b.source.0 b.source.1, (well_final q b.final, (well_list r sst_id_bytes IdFits (λ x h. well_id r x.0 x.1) b.ids f.ids, tt))))

-- What is written is one well-formed value, and nothing is left over.
pub well_manifest : (m : Manifest) → ManifestFits m → whole_of (manifest_bytes m) ≡ Ok tt
unfolding manifest_bytes segments_bytes
well_manifest m f =
    well_whole (manifest_bytes m)
    (well_group 15
    (flag_bytes m.initialized ∷ tree_bytes m.tree ∷ segments_bytes m.segments ∷ name_bytes m.extractor ∷ uint_bytes m.next_wal_sst_id ∷ uint_bytes m.replay_after_wal_id ∷ int_bytes m.last_l0_clock_tick
    ∷ uint_bytes m.last_l0_seq ∷ uint_bytes m.recent_snapshot_min_seq ∷ list_bytes borrow_bytes m.borrows ∷ uint_bytes m.writer_epoch ∷ uint_bytes m.compactor_epoch ∷ [])
    (lit< tt)
    (well_flag 15 m.initialized, (well_tree 8 m.tree f.tree, (well_list 14 segment_bytes SegmentFits (well_segment 6) m.segments f.segments, (well_name 15 m.extractor f.name, (well_uint 15 m.next_wal_sst_id f.next, (well_uint 15 m.replay_after_wal_id f.replay, (well_int 15 m.last_l0_clock_tick f.tick, (well_uint 15 m.last_l0_seq f.seq, (well_uint 15 m.recent_snapshot_min_seq f.recent, (well_list 14 borrow_bytes BorrowFits (well_borrow 12) m.borrows f.borrows, (well_uint 15 m.writer_epoch f.writer, (well_uint 15 m.compactor_epoch f.compactor, tt)))))))))))))
