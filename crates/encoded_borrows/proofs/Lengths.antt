-- Whatever the fresh UUIDs are, the clone has as many bytes. Assumes nothing.
use Rattle.std.specs.Prelude.{Some}
use Prim.Native.Nat.{ℕ, suc}
use mathlib.Core.Path.{◌≡◌, refl, ap}
use mathlib.Core.List.{List, [], ◌∷◌, ◌++◌, map}
use native.Mathlib.Omega.{arith}
use lib.ListN.{length, length-append}
use Rattle.ids.specs.declared.SstId.{SstId}
use Rattle.ids.specs.declared.Uuid.{Uuid}
use Rattle.records.specs.Model.{Borrow, Manifest}
use Rattle.msgpack_put.specs.Write.{uint_bytes, int_bytes, flag_bytes, array_bytes, bin_bytes, id_part, concat}
use Rattle.msgpack_put.proofs.Sizes.{id_size}
use Rattle.manifest_write.specs.Bytes.{list_bytes, final_bytes, sst_id_bytes, tree_bytes, segments_bytes, borrow_bytes, name_bytes, manifest_bytes}
use Rattle.manifest_write.proofs.Bounds.{record_total}
use Rattle.borrows.specs.Owned.{owned_of}
use Rattle.borrows.specs.Clone.{fresh_at, final_of, renewed_all, cloned_borrows, cloned_of}

abbrev parts : Manifest → List (List ℕ)
parts m =
    flag_bytes m.initialized ∷ tree_bytes m.tree ∷ segments_bytes m.segments ∷ name_bytes m.extractor
    ∷ uint_bytes m.next_wal_sst_id ∷ uint_bytes m.replay_after_wal_id ∷ int_bytes m.last_l0_clock_tick ∷ uint_bytes m.last_l0_seq
    ∷ uint_bytes m.recent_snapshot_min_seq ∷ list_bytes borrow_bytes m.borrows ∷ uint_bytes m.writer_epoch ∷ uint_bytes m.compactor_epoch ∷ []

-- ---- a borrow

final_long : (path : List ℕ) (source : Uuid) (ids : List SstId) (u v : Uuid)
    → length (borrow_bytes (record { path = path; source = source; final = Some u; ids = ids })) ≡ length (borrow_bytes (record { path = path; source = source; final = Some v; ids = ids }))
unfolding borrow_bytes
final_long path source ids u v =
    let a = record_total (bin_bytes path ∷ id_part source.0 source.1 ∷ final_bytes (Some u) ∷ list_bytes sst_id_bytes ids ∷ []) (omega arith) in
    let b = record_total (bin_bytes path ∷ id_part source.0 source.1 ∷ final_bytes (Some v) ∷ list_bytes sst_id_bytes ids ∷ []) (omega arith) in
    omega (arith, a, b, id_size u.0 u.1, id_size v.0 v.1)

-- ---- lists of borrows, each as long as its fellow

data Alike : List Borrow → List Borrow → Type 0 where
  none : Alike [] []
  more : {b c : Borrow} {bs cs : List Borrow} → length (borrow_bytes b) ≡ length (borrow_bytes c) → Alike bs cs → Alike (b ∷ bs) (c ∷ cs)

alike_count : (bs cs : List Borrow) → Alike bs cs → length (map borrow_bytes bs) ≡ length (map borrow_bytes cs)
alike_count [] [] none = refl
alike_count [] (c ∷ cs) a = elim a [ ]
alike_count (b ∷ bs) [] a = elim a [ ]
alike_count (b ∷ bs) (c ∷ cs) (more h a) = ap suc (alike_count bs cs a)

alike_concat : (bs cs : List Borrow) → Alike bs cs → length (concat (map borrow_bytes bs)) ≡ length (concat (map borrow_bytes cs))
unfolding concat
alike_concat [] [] none = refl
alike_concat [] (c ∷ cs) a = elim a [ ]
alike_concat (b ∷ bs) [] a = elim a [ ]
alike_concat (b ∷ bs) (c ∷ cs) (more h a) =
    omega (arith, h, alike_concat bs cs a, length-append (borrow_bytes b) (concat (map borrow_bytes bs)), length-append (borrow_bytes c) (concat (map borrow_bytes cs)))

alike_bytes : (bs cs : List Borrow) → Alike bs cs → length (list_bytes borrow_bytes bs) ≡ length (list_bytes borrow_bytes cs)
alike_bytes bs cs a =
    let n : length (array_bytes (length (map borrow_bytes bs))) ≡ length (array_bytes (length (map borrow_bytes cs))) = ap (λ (k : ℕ). length (array_bytes k)) (alike_count bs cs a) in
    omega (arith, n, alike_concat bs cs a, length-append (array_bytes (length (map borrow_bytes bs))) (concat (map borrow_bytes bs)), length-append (array_bytes (length (map borrow_bytes cs))) (concat (map borrow_bytes cs)))

module _ (f g : List Uuid) where
  renewed_alike : (n : ℕ) (bs : List Borrow) (b c : Borrow) → length (borrow_bytes b) ≡ length (borrow_bytes c) → Alike (renewed_all f n bs ++ (b ∷ [])) (renewed_all g n bs ++ (c ∷ []))
  unfolding renewed_all
  renewed_alike n [] b c h = more h none
  renewed_alike n (x ∷ xs) b c h = more (final_long x.path (final_of x.final) x.ids (fresh_at f n) (fresh_at g n)) (renewed_alike (suc n) xs b c h)

  -- ---- the clone

  module _ (m : Manifest) (path : List ℕ) (cp : Uuid) where
    borrows_long : length (list_bytes borrow_bytes (cloned_borrows m path cp f)) ≡ length (list_bytes borrow_bytes (cloned_borrows m path cp g))
    unfolding cloned_borrows
    borrows_long =
        alike_bytes _ _ (renewed_alike 0 m.borrows _ _ (final_long path cp (owned_of m) (fresh_at f (length m.borrows)) (fresh_at g (length m.borrows))))

    pub clone_long : length (manifest_bytes (cloned_of m path cp f)) ≡ length (manifest_bytes (cloned_of m path cp g))
    unfolding manifest_bytes cloned_of
    clone_long = omega (arith, borrows_long, record_total (parts (cloned_of m path cp f)) (omega arith), record_total (parts (cloned_of m path cp g)) (omega arith))
