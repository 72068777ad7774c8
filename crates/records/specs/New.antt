-- The new manifest.
use Rattle.std.specs.Prelude.{true, [], negsuc, None}
use Rattle.records.specs.Model.{Tree, none, Manifest}

-- "A tree newly entered, or standing for an absent one, has no watermarks either."
abbrev pub new_tree : Tree
new_tree = record { view_mark = None; sst_mark = None; l0 = []; runs = [] }

-- "The new manifest is, whole: 9c c3 94 c0 c0 90 90 90 c0 01 00 d3 80 00 00 00 00 00 00 00 00 00 90 00 00": initialized, next_wal_sst_id 1, the
-- clock tick the least i64, all else empty, absent or 0.
abbrev pub new_manifest : Manifest
new_manifest =
    record {
      initialized = true;
      tree = new_tree;
      segments = [];
      extractor = none;
      next_wal_sst_id = 1;
      replay_after_wal_id = 0;
      last_l0_clock_tick = negsuc 9223372036854775807;
      last_l0_seq = 0;
      recent_snapshot_min_seq = 0;
      borrows = [];
      writer_epoch = 0;
      compactor_epoch = 0;
    }
