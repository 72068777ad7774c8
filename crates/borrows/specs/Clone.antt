-- Clone: a manifest that borrows all it uses.
use Rattle.std.specs.Prelude.{ℕ, suc, Bool, true, false, ◌||◌, List, [], ◌∷◌, ◌++◌, ltb, length, get_or, None, Option, Some}
use Rattle.ids.specs.declared.SstId.{SstId}
use Rattle.ids.specs.declared.Uuid.{Uuid}
use Rattle.records.specs.Model.{Borrow, Manifest}
use Rattle.borrows.specs.Owned.{owned_of}

-- "fresh UUIDs" as they are lent: two words a UUID. An odd last word is none.
unfoldable pub uuids_of : List ℕ → List Uuid
uuids_of [] = []
uuids_of (hi ∷ []) = []
uuids_of (hi ∷ lo ∷ ws) = (hi, lo) ∷ uuids_of ws

-- the n-th fresh UUID; one that was not lent is refusal 16 before any is used
abbrev pub fresh_at : List Uuid → ℕ → Uuid
fresh_at fresh n = get_or fresh n (0, 0)

-- a borrow's final checkpoint; a borrow without one is refusal 15 before any is used
abbrev pub final_of : Option Uuid → Uuid
final_of None = (0, 0)
final_of (Some u) = u

-- "source checkpoint := final checkpoint and a fresh final one"
abbrev pub renewed : Borrow → Uuid → Borrow
renewed b u = record { path = b.path; source = final_of b.final; final = Some u; ids = b.ids }

-- "old borrows in order", with the fresh UUIDs from the n-th on
unfoldable pub renewed_all : List Uuid → ℕ → List Borrow → List Borrow
renewed_all fresh n [] = []
renewed_all fresh n (b ∷ bs) = renewed b (fresh_at fresh n) ∷ renewed_all fresh (suc n) bs

-- "then one for the given parent path and checkpoint, with a fresh final one and the owned ids, even if none"
abbrev pub of_parent : List ℕ → Uuid → Uuid → List SstId → Borrow
of_parent path checkpoint u xs = record { path = path; source = checkpoint; final = Some u; ids = xs }

unfoldable pub cloned_borrows : Manifest → List ℕ → Uuid → List Uuid → List Borrow
cloned_borrows m path checkpoint fresh =
    renewed_all fresh 0 m.borrows ++ (of_parent path checkpoint (fresh_at fresh (length m.borrows)) (owned_of m) ∷ [])

-- "Initialized becomes false. Epochs stay."
unfoldable pub cloned_of : Manifest → List ℕ → Uuid → List Uuid → Manifest
cloned_of m path checkpoint fresh =
    record {
      initialized = false;
      tree = m.tree;
      segments = m.segments;
      extractor = m.extractor;
      next_wal_sst_id = m.next_wal_sst_id;
      replay_after_wal_id = m.replay_after_wal_id;
      last_l0_clock_tick = m.last_l0_clock_tick;
      last_l0_seq = m.last_l0_seq;
      recent_snapshot_min_seq = m.recent_snapshot_min_seq;
      borrows = cloned_borrows m path checkpoint fresh;
      writer_epoch = m.writer_epoch;
      compactor_epoch = m.compactor_epoch;
    }

abbrev pub lacks_final : Option Uuid → Bool
lacks_final None = true
lacks_final (Some u) = false

-- "15 | a used borrow has no final checkpoint"
abbrev pub refuses15 : List Borrow → Bool
refuses15 [] = false
refuses15 (b ∷ bs) = lacks_final b.final || refuses15 bs

-- "16 | too few fresh UUIDs": one for each borrow of the result
abbrev pub refuses16 : List Borrow → List Uuid → Bool
refuses16 bs fresh = ltb (length fresh) (length bs)
