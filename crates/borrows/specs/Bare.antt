-- The clone as the code lays it: a manifest without its borrows, its borrows after it. No public promise speaks of it.
use Rattle.std.specs.Prelude.{ℕ, false, List, [], length}
use Rattle.ids.specs.declared.SstId.{SstId}
use Rattle.records.specs.Model.{Manifest}
use Rattle.records.specs.Fill.{plus, borrows, ids, key_fill}
use Rattle.records.specs.declared.Fill.{Fill}
use Rattle.records.specs.declared.ManifestRow.{ManifestRow}

unfoldable pub bare_of : Manifest → Manifest
bare_of m =
    record {
      initialized = false;
      tree = m.tree;
      segments = m.segments;
      extractor = m.extractor;
      next_wal_sst_id = m.next_wal_sst_id;
      replay_after_wal_id = m.replay_after_wal_id;
      last_l0_clock_tick = m.last_l0_clock_tick;
      last_l0_seq = m.last_l0_seq;
      recent_snapshot_min_seq = m.recent_snapshot_min_seq;
      borrows = [];
      writer_epoch = m.writer_epoch;
      compactor_epoch = m.compactor_epoch;
    }

unfoldable pub bare_row : ManifestRow → ManifestRow
bare_row m =
    record {
      initialized = false;
      tree = m.tree;
      segments = m.segments;
      segment_extractor_name = m.segment_extractor_name;
      next_wal_sst_id = m.next_wal_sst_id;
      replay_after_wal_id = m.replay_after_wal_id;
      last_l0_clock_tick = m.last_l0_clock_tick;
      last_l0_seq = m.last_l0_seq;
      recent_snapshot_min_seq = m.recent_snapshot_min_seq;
      external_dbs = record { first = 0; count = 0 };
      writer_epoch = m.writer_epoch;
      compactor_epoch = m.compactor_epoch;
    }

-- what the parent's borrow adds
abbrev pub lent_fill : List ℕ → List SstId → Fill
lent_fill path xs = plus (borrows 1) (plus (key_fill path) (ids (length xs)))
