-- A manifest's own value as words.
use Rattle.std.specs.Prelude.{ℕ, Bool, false, true, ◌&&◌, List, [], ◌∷◌, ltb, leb, ℤ, None, Option, Some}
use Rattle.keys.specs.Pick.{pick}
use Rattle.tables.specs.declared.Window.{Window}
use Rattle.records.specs.Row.{at, window_at, optional, segment_at}
use Rattle.records.specs.declared.ManifestRow.{ManifestRow}
use Rattle.records.specs.declared.Place.{Place}
use Rattle.records.specs.declared.SegmentRow.{SegmentRow}

-- "holding a code that stands for nothing, breaks L1": the codes of both watermarks, of the name and of initialized are 0 or 1
abbrev pub codes_known : List ℕ → List ℕ → Bool
codes_known t h = (leb (at t 2) 1 && leb (at t 5) 1) && (leb (at h 0) 1 && leb (at h 5) 1)

-- a window that lies in no table: what holds another code is read as pointing there, and so breaks L1
abbrev pub nowhere : Window
nowhere = record { first = 18446744073709551615; count = 1 }

unfoldable pub head_segments : List ℕ → List ℕ → Window
head_segments t h = pick (codes_known t h) (window_at h 1) nowhere

-- "Manifest: initialized, unsegmented tree, segments, extractor name or none, next_wal_sst_id, replay_after_wal_id, last_l0_clock_tick (i64),
-- last_l0_seq, recent_snapshot_min_seq, borrows, writer epoch, compactor epoch." The unsegmented tree stands as in a segment's row, with
-- the name's place for the prefix's. Then 12 words: 0 whether there is a name, 1 segments, 3 borrows, 5 initialized, 6 the numbers in
-- order; the clock tick stands beside them.
unfoldable pub head_at : List ℕ → List ℕ → ℤ → ManifestRow
head_at t h tick =
    record {
      initialized = ltb 0 (at h 5);
      tree = (segment_at t 0).tree;
      segments = head_segments t h;
      segment_extractor_name = optional None Some (at h 0) (segment_at t 0).prefix;
      next_wal_sst_id = at h 6;
      replay_after_wal_id = at h 7;
      last_l0_clock_tick = tick;
      last_l0_seq = at h 8;
      recent_snapshot_min_seq = at h 9;
      external_dbs = window_at h 3;
      writer_epoch = at h 10;
      compactor_epoch = at h 11;
    }

-- ---- and the words of it

abbrev pub name_word : Option Place → ℕ
name_word None = 0
name_word (Some p) = 1

abbrev pub name_place : Option Place → Place
name_place None = record { at = 0; len = 0 }
name_place (Some p) = p

abbrev pub flag_word : Bool → ℕ
flag_word false = 0
flag_word true = 1

-- the row that holds the unsegmented tree
abbrev pub tree_row : ManifestRow → SegmentRow
tree_row m = record { prefix = name_place m.segment_extractor_name; tree = m.tree }

unfoldable pub rest_words : ManifestRow → List ℕ
rest_words m =
    name_word m.segment_extractor_name ∷ m.segments.first ∷ m.segments.count ∷ m.external_dbs.first ∷ m.external_dbs.count
    ∷ flag_word m.initialized ∷ m.next_wal_sst_id ∷ m.replay_after_wal_id ∷ m.last_l0_seq ∷ m.recent_snapshot_min_seq
    ∷ m.writer_epoch ∷ m.compactor_epoch ∷ []
