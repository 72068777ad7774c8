-- THE ROUND TRIP: reading what was written gives the same manifest. Assumes nothing.
use Rattle.std.specs.Prelude.{None, Option, Some}
use Prim.Native.Nat.{ℕ, ◌+◌, ◌-◌, ◌^◌, ◌≤◌}
use mathlib.Core.Path.{◌≡◌, sym, ap, ◌∙◌}
use mathlib.Core.List.{List, [], ◌∷◌, ◌++◌, map, append_assoc, append-nil}
use native.Mathlib.Omega.{arith}
use native.Mathlib.Nat.{zero-add}
use lib.Dec.{lit<, lit≤}
use lib.ListN.{length, drop, length-append, length-map}
use Rattle.keys.specs.Range.{Edge, unbounded, included, excluded}
use Rattle.ids.specs.Id.{id_bytes}
use Rattle.ids.specs.declared.SstId.{SstId}
use Rattle.records.specs.Model.{LastKey, unknown, known, Seen, all, only, View, Run, Tree, Segment, Borrow, Extractor, none, named, Manifest}
use Rattle.msgpack_put.specs.Write.{uint_bytes, int_bytes, flag_bytes, array_bytes, bin_bytes, id_part, concat, group_bytes}
use Rattle.msgpack_put.proofs.Back.{on, uint_back, int_back, flag_back, group_back, bin_back, bytes_back, nil_back, bin_present, array_present, id_back, rest_back}
use Rattle.msgpack_put.proofs.Puts.{id_length}
use Rattle.manifest_write.specs.Bytes.{list_bytes, view_mark_bytes, sst_mark_bytes, final_bytes, sst_id_bytes, edge_bytes, seen_bytes, last_bytes, view_bytes, run_bytes, tree_bytes, segment_bytes, segments_bytes, borrow_bytes, name_bytes, manifest_bytes}
use Rattle.manifest_values.specs.Read.{Got, is, many, list_of, most, edge_by, key_at, sst_id_at, view_mark_at, sst_mark_at, final_at, edge_at, seen_at, last_at, view_at, run_at, tree_at, segment_at, borrow_at, name_at, trees_at, borrows_at, numbers_at, epochs_at, manifest_at}
use Rattle.manifest_round.specs.Fits.{Short, ViewMarkFits, SstMarkFits, FinalFits, EdgeFits, SeenFits, LastFits, NameFits, AllFit, ListFits, ViewFits, RunFits, TreeFits, SegmentFits, IdFits, BorrowFits, ManifestFits}
use Rattle.ids.specs.declared.ViewId.{ViewId}
use Rattle.ids.specs.declared.Uuid.{Uuid}

-- wherever x was written, x is read there
abbrev pub Back : {A : Type 0} → (List ℕ → ℕ → Got A) → (A → List ℕ) → A → Type 0
Back one bytes x = (s : List ℕ) (at : ℕ) (post : List ℕ) → drop at s ≡ bytes x ++ post → one s at ≡ is x (at + length (bytes x))

-- ---- keys and ids

key_back : (k : List ℕ) → Short (length k) → Back key_at bin_bytes k
key_back k h s at post e = rw (bin_back s at post k h e, bytes_back s at post k e)

last_back : (l : LastKey) → LastFits l → Back last_at last_bytes l
last_back unknown h s at post e = rw (nil_back s at post e)
last_back (known k) h s at post e = rw (bin_present s at post k h e, key_back k h s at post e)

name_back : (n : Extractor) → NameFits n → Back name_at name_bytes n
name_back none h s at post e = rw (nil_back s at post e)
name_back (named k) h s at post e = rw (bin_present s at post k h e, key_back k h s at post e)

sst_id_back : (x : SstId) → IdFits x → Back sst_id_at sst_id_bytes x
sst_id_back x h s at post e = rw (id_back s at post x.0 x.1 h.0 h.1 e)

-- ---- what may be absent

some_id : (s : List ℕ) (at : ℕ) (post : List ℕ) (hi lo : ℕ) → drop at s ≡ id_part hi lo ++ post → Short (length (id_bytes hi lo))
some_id s at post hi lo e = omega (arith, id_length hi lo)

view_mark_back : (m : Option ViewId) → ViewMarkFits m → Back view_mark_at view_mark_bytes m
view_mark_back None h s at post e = rw (nil_back s at post e)
view_mark_back (Some x) h s at post e =
    rw (bin_present s at post (id_bytes x.0 x.1) (some_id s at post x.0 x.1 e) e, id_back s at post x.0 x.1 h.0 h.1 e)

sst_mark_back : (m : Option SstId) → SstMarkFits m → Back sst_mark_at sst_mark_bytes m
sst_mark_back None h s at post e = rw (nil_back s at post e)
sst_mark_back (Some x) h s at post e =
    rw (bin_present s at post (id_bytes x.0 x.1) (some_id s at post x.0 x.1 e) e, id_back s at post x.0 x.1 h.0 h.1 e)

final_back : (f : Option Uuid) → FinalFits f → Back final_at final_bytes f
final_back None h s at post e = rw (nil_back s at post e)
final_back (Some x) h s at post e =
    rw (bin_present s at post (id_bytes x.0 x.1) (some_id s at post x.0 x.1 e) e, id_back s at post x.0 x.1 h.0 h.1 e)

-- ---- lists

module _ {A : Type 0} (one : List ℕ → ℕ → Got A) (bytes : A → List ℕ) (P : A → Type 0) (back : (x : A) → P x → Back one bytes x) where
  many_back : (xs : List A) → AllFit P xs → (s : List ℕ) (at : ℕ) (post : List ℕ) → drop at s ≡ concat (map bytes xs) ++ post → many (one s) (length xs) at ≡ is xs (at + length (concat (map bytes xs)))
  unfolding many concat
  many_back [] f s at post e = ap (λ (p : ℕ). is [] p) (omega arith)
  many_back (x ∷ xs) f s at post e =
      let e' : drop at s ≡ bytes x ++ (concat (map bytes xs) ++ post) = e ∙ append_assoc (bytes x) (concat (map bytes xs)) post in
      rw (back x f.0 s at (concat (map bytes xs) ++ post) e', many_back xs f.1 s (at + length (bytes x)) post (on s at (bytes x) (concat (map bytes xs) ++ post) e'))
      (ap (λ (p : ℕ). is (x ∷ xs) p) (rw (length-append (bytes x) (concat (map bytes xs))) (omega arith)))

  list_back : (xs : List A) → ListFits P xs → (s : List ℕ) (at : ℕ) (post : List ℕ) → drop at s ≡ list_bytes bytes xs ++ post → list_of (one s) s at ≡ is xs (at + length (list_bytes bytes xs))
  list_back xs f s at post e =
      let n = length (map bytes xs) in
      let l : n ≡ length xs = length-map xs bytes in
      let c = concat (map bytes xs) in
      let e' : drop at s ≡ array_bytes n ++ (c ++ post) = e ∙ append_assoc (array_bytes n) c post in
      rw (group_back s at (c ++ post) n 0 (rw l f.short) (omega arith) e')
      (ap (λ (k : ℕ). many (one s) k (at + length (array_bytes n))) l ∙ many_back xs f.each s (at + length (array_bytes n)) post (on s at (array_bytes n) (c ++ post) e')
      ∙ ap (λ (p : ℕ). is xs p) (rw (length-append (array_bytes n) c) (omega arith)))

-- ---- records, part after part

bound_back : (kind : ℕ) → kind ≤ 1 → (k : List ℕ) → Short (length k) → (s : List ℕ) (at : ℕ) (post : List ℕ) → drop at s ≡ group_bytes (uint_bytes kind ∷ bin_bytes k ∷ []) ++ post
    → edge_at s at ≡ is (edge_by kind k) (at + length (group_bytes (uint_bytes kind ∷ bin_bytes k ∷ [])))
unfolding edge_at concat
bound_back kind h k f s at post e =
    let p₀ = at + length (array_bytes 2) in
    let p₁ = p₀ + length (uint_bytes kind) in
    let e₀ : drop at s ≡ array_bytes 2 ++ (uint_bytes kind ++ (bin_bytes k ++ post)) = e ∙ simp (append_assoc, append-nil) in
    let e₁ : drop p₀ s ≡ uint_bytes kind ++ (bin_bytes k ++ post) = on s at (array_bytes 2) _ e₀ in
    let e₂ : drop p₁ s ≡ bin_bytes k ++ post = on s p₀ (uint_bytes kind) _ e₁ in
    rw (array_present s at _ 2 (lit< tt) e₀, group_back s at _ 2 2 (lit< tt) (lit≤ tt) e₀, uint_back s p₀ _ kind 1 (omega arith) h e₁, key_back k f s p₁ post e₂, rest_back s (p₁ + length (bin_bytes k)) 2)
    (ap (λ (p : ℕ). is (edge_by kind k) p) (simp (length-append, append-nil) (omega arith)))

edge_back : (x : Edge) → EdgeFits x → Back edge_at edge_bytes x
unfolding edge_at
edge_back unbounded f s at post e = rw (nil_back s at post e)
edge_back (included k) f s at post e = bound_back 0 (lit≤ tt) k f s at post e
edge_back (excluded k) f s at post e = bound_back 1 (lit≤ tt) k f s at post e

seen_back : (x : Seen) → SeenFits x → Back seen_at seen_bytes x
unfolding seen_at concat
seen_back all f s at post e = rw (nil_back s at post e)
seen_back (only r) f s at post e =
    let b₁ = edge_bytes r.start in
    let b₂ = edge_bytes r.end in
    let p₀ = at + length (array_bytes 2) in
    let p₁ = p₀ + length b₁ in
    let e₀ : drop at s ≡ array_bytes 2 ++ (b₁ ++ (b₂ ++ post)) = e ∙ simp (append_assoc, append-nil) in
    let e₁ : drop p₀ s ≡ b₁ ++ (b₂ ++ post) = on s at (array_bytes 2) _ e₀ in
    let e₂ : drop p₁ s ≡ b₂ ++ post = on s p₀ b₁ _ e₁ in
    rw (array_present s at _ 2 (lit< tt) e₀, group_back s at _ 2 2 (lit< tt) (lit≤ tt) e₀, edge_back r.start f.0 s p₀ _ e₁, edge_back r.end f.1 s p₁ post e₂, rest_back s (p₁ + length b₂) 2)
    (ap (λ (p : ℕ). is (only r) p) (simp (length-append, append-nil) (omega arith)))

view_back : (v : View) → ViewFits v → Back view_at view_bytes v
unfolding view_at view_bytes concat
view_back v f s at post e =
    let b₁ = id_part v.id.0 v.id.1 in
    let b₂ = id_part v.sst.0 v.sst.1 in
    let b₃ = bin_bytes v.first in
    let b₄ = last_bytes v.last in
    let b₅ = seen_bytes v.visible in
    let p₀ = at + length (array_bytes 5) in
    let p₁ = p₀ + length b₁ in
    let p₂ = p₁ + length b₂ in
    let p₃ = p₂ + length b₃ in
    let p₄ = p₃ + length b₄ in
    let e₀ : drop at s ≡ array_bytes 5 ++ (b₁ ++ (b₂ ++ (b₃ ++ (b₄ ++ (b₅ ++ post))))) = e ∙ simp (append_assoc, append-nil) in
    let e₁ : drop p₀ s ≡ b₁ ++ (b₂ ++ (b₃ ++ (b₄ ++ (b₅ ++ post)))) = on s at (array_bytes 5) _ e₀ in
    let e₂ : drop p₁ s ≡ b₂ ++ (b₃ ++ (b₄ ++ (b₅ ++ post))) = on s p₀ b₁ _ e₁ in
    let e₃ : drop p₂ s ≡ b₃ ++ (b₄ ++ (b₅ ++ post)) = on s p₁ b₂ _ e₂ in
    let e₄ : drop p₃ s ≡ b₄ ++ (b₅ ++ post) = on s p₂ b₃ _ e₃ in
    let e₅ : drop p₄ s ≡ b₅ ++ post = on s p₃ b₄ _ e₄ in
    rw (
      group_back s at _ 5 5 (lit< tt) (lit≤ tt) e₀,
      id_back s p₀ _ v.id.0 v.id.1 f.id.0 f.id.1 e₁,
      id_back s p₁ _ v.sst.0 v.sst.1 f.sst.0 f.sst.1 e₂,
      key_back v.first f.first s p₂ _ e₃,
      last_back v.last f.last s p₃ _ e₄,
      seen_back v.visible f.visible s p₄ post e₅,
      rest_back s (p₄ + length b₅) 5,
    )
    (ap (λ (p : ℕ). is v p) (simp (length-append, append-nil) (omega arith)))

run_back : (r : Run) → RunFits r → Back run_at run_bytes r
unfolding run_at run_bytes concat
run_back r f s at post e =
    let b₁ = uint_bytes r.id in
    let b₂ = list_bytes view_bytes r.views in
    let p₀ = at + length (array_bytes 2) in
    let p₁ = p₀ + length b₁ in
    let e₀ : drop at s ≡ array_bytes 2 ++ (b₁ ++ (b₂ ++ post)) = e ∙ simp (append_assoc, append-nil) in
    let e₁ : drop p₀ s ≡ b₁ ++ (b₂ ++ post) = on s at (array_bytes 2) _ e₀ in
    let e₂ : drop p₁ s ≡ b₂ ++ post = on s p₀ b₁ _ e₁ in
    rw (group_back s at _ 2 2 (lit< tt) (lit≤ tt) e₀, uint_back s p₀ _ r.id (2 ^ 32 - 1) (omega (arith, f.id)) (omega (arith, f.id)) e₁, list_back view_at view_bytes ViewFits view_back r.views f.views s p₁ post e₂, rest_back s (p₁ + length b₂) 2)
    (ap (λ (p : ℕ). is r p) (simp (length-append, append-nil) (omega arith)))

tree_back : (t : Tree) → TreeFits t → Back tree_at tree_bytes t
unfolding tree_at tree_bytes concat
tree_back t f s at post e =
    let b₁ = view_mark_bytes t.view_mark in
    let b₂ = sst_mark_bytes t.sst_mark in
    let b₃ = list_bytes view_bytes t.l0 in
    let b₄ = list_bytes run_bytes t.runs in
    let p₀ = at + length (array_bytes 4) in
    let p₁ = p₀ + length b₁ in
    let p₂ = p₁ + length b₂ in
    let p₃ = p₂ + length b₃ in
    let e₀ : drop at s ≡ array_bytes 4 ++ (b₁ ++ (b₂ ++ (b₃ ++ (b₄ ++ post)))) = e ∙ simp (append_assoc, append-nil) in
    let e₁ : drop p₀ s ≡ b₁ ++ (b₂ ++ (b₃ ++ (b₄ ++ post))) = on s at (array_bytes 4) _ e₀ in
    let e₂ : drop p₁ s ≡ b₂ ++ (b₃ ++ (b₄ ++ post)) = on s p₀ b₁ _ e₁ in
    let e₃ : drop p₂ s ≡ b₃ ++ (b₄ ++ post) = on s p₁ b₂ _ e₂ in
    let e₄ : drop p₃ s ≡ b₄ ++ post = on s p₂ b₃ _ e₃ in
    rw (
      group_back s at _ 4 4 (lit< tt) (lit≤ tt) e₀,
      view_mark_back t.view_mark f.view s p₀ _ e₁,
      sst_mark_back t.sst_mark f.sst s p₁ _ e₂,
      list_back view_at view_bytes ViewFits view_back t.l0 f.l0 s p₂ _ e₃,
      list_back run_at run_bytes RunFits run_back t.runs f.runs s p₃ post e₄,
      rest_back s (p₃ + length b₄) 4,
    )
    (ap (λ (p : ℕ). is t p) (simp (length-append, append-nil) (omega arith)))

segment_back : (g : Segment) → SegmentFits g → Back segment_at segment_bytes g
unfolding segment_at segment_bytes concat
segment_back g f s at post e =
    let b₁ = bin_bytes g.prefix in
    let b₂ = tree_bytes g.tree in
    let p₀ = at + length (array_bytes 2) in
    let p₁ = p₀ + length b₁ in
    let e₀ : drop at s ≡ array_bytes 2 ++ (b₁ ++ (b₂ ++ post)) = e ∙ simp (append_assoc, append-nil) in
    let e₁ : drop p₀ s ≡ b₁ ++ (b₂ ++ post) = on s at (array_bytes 2) _ e₀ in
    let e₂ : drop p₁ s ≡ b₂ ++ post = on s p₀ b₁ _ e₁ in
    rw (group_back s at _ 2 2 (lit< tt) (lit≤ tt) e₀, key_back g.prefix f.prefix s p₀ _ e₁, tree_back g.tree f.tree s p₁ post e₂, rest_back s (p₁ + length b₂) 2)
    (ap (λ (p : ℕ). is g p) (simp (length-append, append-nil) (omega arith)))

-- the segments part by itself, which the merges' results are
pub segments_back : (gs : List Segment) → ListFits SegmentFits gs → (s : List ℕ) (at : ℕ) (post : List ℕ) → drop at s ≡ segments_bytes gs ++ post → list_of (segment_at s) s at ≡ is gs (at + length (segments_bytes gs))
unfolding segments_bytes
segments_back gs f s at post e = list_back segment_at segment_bytes SegmentFits segment_back gs f s at post e

borrow_back : (b : Borrow) → BorrowFits b → Back borrow_at borrow_bytes b
unfolding borrow_at borrow_bytes concat
borrow_back b f s at post e =
    let b₁ = bin_bytes b.path in
    let b₂ = id_part b.source.0 b.source.1 in
    let b₃ = final_bytes b.final in
    let b₄ = list_bytes sst_id_bytes b.ids in
    let p₀ = at + length (array_bytes 4) in
    let p₁ = p₀ + length b₁ in
    let p₂ = p₁ + length b₂ in
    let p₃ = p₂ + length b₃ in
    let e₀ : drop at s ≡ array_bytes 4 ++ (b₁ ++ (b₂ ++ (b₃ ++ (b₄ ++ post)))) = e ∙ simp (append_assoc, append-nil) in
    let e₁ : drop p₀ s ≡ b₁ ++ (b₂ ++ (b₃ ++ (b₄ ++ post))) = on s at (array_bytes 4) _ e₀ in
    let e₂ : drop p₁ s ≡ b₂ ++ (b₃ ++ (b₄ ++ post)) = on s p₀ b₁ _ e₁ in
    let e₃ : drop p₂ s ≡ b₃ ++ (b₄ ++ post) = on s p₁ b₂ _ e₂ in
    let e₄ : drop p₃ s ≡ b₄ ++ post = on s p₂ b₃ _ e₃ in
    rw (
      group_back s at _ 4 4 (lit< tt) (lit≤ tt) e₀,
      key_back b.path f.path s p₀ _ e₁,
      id_back s p₁ _ b.source.0 b.source.1 f.source.0 f.source.1 e₂,
      final_back b.final f.final s p₂ _ e₃,
      list_back sst_id_at sst_id_bytes IdFits sst_id_back b.ids f.ids s p₃ post e₄,
      rest_back s (p₃ + length b₄) 4,
    )
    (ap (λ (p : ℕ). is b p) (simp (length-append, append-nil) (omega arith)))

-- ---- the manifest: its three middle parts, then the whole

module _ (m : Manifest) (f : ManifestFits m) where
  trees_back : (s : List ℕ) (at : ℕ) (post : List ℕ) → drop at s ≡ tree_bytes m.tree ++ (segments_bytes m.segments ++ post)
      → trees_at s at ≡ is (record { tree = m.tree; segments = m.segments }) (at + length (tree_bytes m.tree) + length (segments_bytes m.segments))
  unfolding trees_at
  trees_back s at post e =
      rw (tree_back m.tree f.tree s at _ e, segments_back m.segments f.segments s (at + length (tree_bytes m.tree)) post (on s at (tree_bytes m.tree) _ e))

  numbers_back : (s : List ℕ) (at : ℕ) (post : List ℕ)
      → drop at s ≡ uint_bytes m.next_wal_sst_id ++ (uint_bytes m.replay_after_wal_id ++ (int_bytes m.last_l0_clock_tick ++ (uint_bytes m.last_l0_seq ++ (uint_bytes m.recent_snapshot_min_seq ++ post))))
      → numbers_at s at ≡ is (record { next_wal_sst_id = m.next_wal_sst_id; replay_after_wal_id = m.replay_after_wal_id; last_l0_clock_tick = m.last_l0_clock_tick; last_l0_seq = m.last_l0_seq; recent_snapshot_min_seq = m.recent_snapshot_min_seq })
      (at + length (uint_bytes m.next_wal_sst_id) + length (uint_bytes m.replay_after_wal_id) + length (int_bytes m.last_l0_clock_tick) + length (uint_bytes m.last_l0_seq) + length (uint_bytes m.recent_snapshot_min_seq))
  unfolding numbers_at
  numbers_back s at post e₀ =
      let p₁ = at + length (uint_bytes m.next_wal_sst_id) in
      let p₂ = p₁ + length (uint_bytes m.replay_after_wal_id) in
      let p₃ = p₂ + length (int_bytes m.last_l0_clock_tick) in
      let p₄ = p₃ + length (uint_bytes m.last_l0_seq) in
      let e₁ = on s at (uint_bytes m.next_wal_sst_id) _ e₀ in
      let e₂ = on s p₁ (uint_bytes m.replay_after_wal_id) _ e₁ in
      let e₃ = on s p₂ (int_bytes m.last_l0_clock_tick) _ e₂ in
      let e₄ = on s p₃ (uint_bytes m.last_l0_seq) _ e₃ in
      rw (
        uint_back s at _ m.next_wal_sst_id most f.next (omega (arith, f.next)) e₀,
        uint_back s p₁ _ m.replay_after_wal_id most f.replay (omega (arith, f.replay)) e₁,
        int_back s p₂ _ m.last_l0_clock_tick f.tick e₂,
        uint_back s p₃ _ m.last_l0_seq most f.seq (omega (arith, f.seq)) e₃,
        uint_back s p₄ _ m.recent_snapshot_min_seq most f.recent (omega (arith, f.recent)) e₄,
      )

  epochs_back : (s : List ℕ) (at : ℕ) (post : List ℕ) → drop at s ≡ uint_bytes m.writer_epoch ++ (uint_bytes m.compactor_epoch ++ post)
      → epochs_at s at ≡ is (record { writer = m.writer_epoch; compactor = m.compactor_epoch }) (at + length (uint_bytes m.writer_epoch) + length (uint_bytes m.compactor_epoch))
  unfolding epochs_at
  epochs_back s at post e =
      rw (
        uint_back s at _ m.writer_epoch most f.writer (omega (arith, f.writer)) e,
        uint_back s (at + length (uint_bytes m.writer_epoch)) post m.compactor_epoch most f.compactor (omega (arith, f.compactor)) (on s at (uint_bytes m.writer_epoch) _ e),
      )

  lenders_back : (s : List ℕ) (at : ℕ) (post : List ℕ) → drop at s ≡ list_bytes borrow_bytes m.borrows ++ post → borrows_at s at ≡ is m.borrows (at + length (list_bytes borrow_bytes m.borrows))
  unfolding borrows_at
  lenders_back s at post e = list_back borrow_at borrow_bytes BorrowFits borrow_back m.borrows f.borrows s at post e

  pub manifest_back : (s : List ℕ) (at : ℕ) (post : List ℕ) → drop at s ≡ manifest_bytes m ++ post → manifest_at s at ≡ is m (at + length (manifest_bytes m))
  unfolding manifest_at manifest_bytes concat
  manifest_back s at post e =
      let b₀ = flag_bytes m.initialized in
      let b₁ = tree_bytes m.tree in
      let b₂ = segments_bytes m.segments in
      let b₃ = name_bytes m.extractor in
      let u₁ = uint_bytes m.next_wal_sst_id in
      let u₂ = uint_bytes m.replay_after_wal_id in
      let u₃ = int_bytes m.last_l0_clock_tick in
      let u₄ = uint_bytes m.last_l0_seq in
      let u₅ = uint_bytes m.recent_snapshot_min_seq in
      let b₄ = list_bytes borrow_bytes m.borrows in
      let w₁ = uint_bytes m.writer_epoch in
      let w₂ = uint_bytes m.compactor_epoch in
      let p₀ = at + length (array_bytes 12) in
      let p₁ = p₀ + length b₀ in
      let p₂ = p₁ + length b₁ + length b₂ in
      let p₃ = p₂ + length b₃ in
      let p₄ = p₃ + length u₁ + length u₂ + length u₃ + length u₄ + length u₅ in
      let p₅ = p₄ + length b₄ in
      let z₄ = b₄ ++ (w₁ ++ (w₂ ++ post)) in
      let z₃ = u₁ ++ (u₂ ++ (u₃ ++ (u₄ ++ (u₅ ++ z₄)))) in
      let z₁ = b₁ ++ (b₂ ++ (b₃ ++ z₃)) in
      let e₀ : drop at s ≡ array_bytes 12 ++ (b₀ ++ z₁) = e ∙ simp (append_assoc, append-nil) in
      let e₁ : drop p₀ s ≡ b₀ ++ z₁ = on s at (array_bytes 12) _ e₀ in
      let e₂ : drop p₁ s ≡ z₁ = on s p₀ b₀ _ e₁ in
      let e₃ : drop p₂ s ≡ b₃ ++ z₃ = on s (p₁ + length b₁) b₂ _ (on s p₁ b₁ _ e₂) in
      let e₄ : drop p₃ s ≡ z₃ = on s p₂ b₃ _ e₃ in
      let e₅ : drop p₄ s ≡ z₄ = on s (p₃ + length u₁ + length u₂ + length u₃ + length u₄) u₅ _ (on s (p₃ + length u₁ + length u₂ + length u₃) u₄ _ (on s (p₃ + length u₁ + length u₂) u₃ _ (on s (p₃ + length u₁) u₂ _ (on s p₃ u₁ _ e₄)))) in
      let e₆ : drop p₅ s ≡ w₁ ++ (w₂ ++ post) = on s p₄ b₄ _ e₅ in
      rw (
        group_back s at _ 12 12 (lit< tt) (lit≤ tt) e₀,
        flag_back s p₀ _ m.initialized e₁,
        trees_back s p₁ _ e₂,
        name_back m.extractor f.name s p₂ _ e₃,
        numbers_back s p₃ _ e₄,
        lenders_back s p₄ _ e₅,
        epochs_back s p₅ post e₆,
        rest_back s (p₅ + length w₁ + length w₂) 12,
      )
      (ap (λ (p : ℕ). is m p) (simp (length-append, append-nil) (omega arith)))

  -- Reading what was written gives the same manifest.
  pub round_trip : manifest_at (manifest_bytes m) 0 ≡ is m (length (manifest_bytes m))
  round_trip = manifest_back (manifest_bytes m) 0 [] (sym (append-nil (manifest_bytes m))) ∙ ap (λ (p : ℕ). is m p) (zero-add (length (manifest_bytes m)))
