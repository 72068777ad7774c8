-- Insert, on a manifest of the model.
use Rattle.std.specs.Prelude.{ℕ, zero, suc, Bool, List, [], ◌∷◌, ltb, length}
use Rattle.keys.specs.Pick.{pick}
use Rattle.records.specs.Model.{Segment, Manifest}
use Rattle.records.specs.New.{new_tree}
use Rattle.records.specs.Fill.{manifest_fill}
use Rattle.records.specs.Refusals.{refusal}
use Rattle.records.specs.declared.Fill.{Fill}
use Rattle.records.specs.declared.Limits.{Limits}
use Rattle.records.specs.declared.Refusal.{Refusal}
use Rattle.records.specs.declared.Refusal.TheVariants.{OverLimit, Nests, NoRoom}
use Rattle.measure.specs.Within.{no_room}
use Rattle.segments.specs.Prefixes.{prefixes}
use Rattle.segments.specs.Refuses.{prefix_over}
use Rattle.segments.specs.Lookup.{index_of}
use Rattle.segments.specs.Place.{place_of, refuses3, conflict_of}

-- "A new tree is empty, without watermarks"
abbrev pub new_segment : List ℕ → Segment
new_segment p = record { prefix = p; tree = new_tree }

abbrev pub with_segments : Manifest → List Segment → Manifest
with_segments m ss =
    record {
      initialized = m.initialized;
      tree = m.tree;
      segments = ss;
      extractor = m.extractor;
      next_wal_sst_id = m.next_wal_sst_id;
      replay_after_wal_id = m.replay_after_wal_id;
      last_l0_clock_tick = m.last_l0_clock_tick;
      last_l0_seq = m.last_l0_seq;
      recent_snapshot_min_seq = m.recent_snapshot_min_seq;
      borrows = m.borrows;
      writer_epoch = m.writer_epoch;
      compactor_epoch = m.compactor_epoch;
    }

-- x at place i of xs
abbrev pub put : {A : Type 0} → ℕ → A → List A → List A
put zero x xs = x ∷ xs
put (suc i) x [] = x ∷ []
put (suc i) x (y ∷ xs) = y ∷ put i x xs

-- "an empty tree enters at its sorted place"
abbrev pub entered_in : List Segment → List ℕ → List Segment
entered_in ss p = put (place_of (prefixes ss) p) (new_segment p) ss

-- whether the prefix is one of those held
abbrev pub holds_of : List (List ℕ) → List ℕ → Bool
holds_of ps p = ltb (index_of ps p) (length ps)

-- "4 | result breaks a number in L1, or a lent output is too short"
abbrev pub refuses4 : Limits → Fill → Manifest → Bool
refuses4 lim room m = no_room lim room (manifest_fill m)

-- what insert answers
pub data Entry : Type 0 where
  found : ℕ → Entry
  entered : ℕ → Manifest → Entry
  refused : Refusal → Entry

-- "a held prefix is found, even in a full list. Else nested is refused, then no room; else an empty tree enters at its sorted
-- place." The manifest is lawful; 2 comes first.
unfoldable pub inserted_of : Limits → Fill → Manifest → List ℕ → Entry
inserted_of lim room m p =
    pick (prefix_over lim p) (refused OverLimit)
    (pick (holds_of (prefixes m.segments) p) (found (index_of (prefixes m.segments) p))
    (pick (refuses3 (prefixes m.segments) p) (refused (Nests (conflict_of (prefixes m.segments) p)))
    (pick (refuses4 lim room (with_segments m (entered_in m.segments p))) (refused NoRoom)
    (entered (place_of (prefixes m.segments) p) (with_segments m (entered_in m.segments p))))))

-- the manifest after a call: changed where the prefix entered, else as it was
abbrev pub after_entry : Manifest → Entry → Manifest
after_entry m (found i) = m
after_entry m (entered i n) = n
after_entry m (refused r) = m

-- the number and the values of each answer
abbrev pub inserted : Entry → List ℕ
inserted (found i) = 0 ∷ 0 ∷ i ∷ []
inserted (entered i m) = 0 ∷ 1 ∷ i ∷ []
inserted (refused r) = refusal r
