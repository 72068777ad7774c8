-- What the inner functions answer. No public promise speaks of it.
use Rattle.std.specs.Prelude.{ℕ, true, negsuc, Option}
use Rattle.records.specs.declared.TreeRow.{TreeRow}
use Rattle.records.specs.declared.ManifestRow.{ManifestRow}
use Rattle.records.specs.declared.Place.{Place}

-- the row of a union whose segments and borrows stand at the front of the tables: all but what is given is a new manifest's
abbrev pub united_row : TreeRow → ℕ → Option Place → ℕ → ℕ → ManifestRow
united_row tree segments name borrows seq =
    record {
      initialized = true;
      tree = tree;
      segments = record { first = 0; count = segments };
      segment_extractor_name = name;
      next_wal_sst_id = 1;
      replay_after_wal_id = 0;
      last_l0_clock_tick = negsuc 9223372036854775807;
      last_l0_seq = seq;
      recent_snapshot_min_seq = 0;
      external_dbs = record { first = 0; count = borrows };
      writer_epoch = 0;
      compactor_epoch = 0;
    }
