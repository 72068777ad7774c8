-- Projection: a manifest narrowed to ranges and a filter.
use Rattle.std.specs.Prelude.{List, []}
use Rattle.keys.specs.Pick.{pick}
use Rattle.records.specs.Model.{Tree, Segment, Borrow, Manifest}
use Rattle.measure.specs.Within.{all_views, ids_used}
use Rattle.prune.specs.Prune.{pruned}
use Rattle.project_ranges.specs.Config.{Config, is_noop}
use Rattle.project_ranges.specs.Action.{action_of}
use Rattle.project_lay.specs.After.{tree_after, segments_after}

-- a manifest with other trees and borrows
abbrev pub with_trees : Manifest → Tree → List Segment → List Borrow → Manifest
with_trees m t ss bs =
    record {
      initialized = m.initialized;
      tree = t;
      segments = ss;
      extractor = m.extractor;
      next_wal_sst_id = m.next_wal_sst_id;
      replay_after_wal_id = m.replay_after_wal_id;
      last_l0_clock_tick = m.last_l0_clock_tick;
      last_l0_seq = m.last_l0_seq;
      recent_snapshot_min_seq = m.recent_snapshot_min_seq;
      borrows = bs;
      writer_epoch = m.writer_epoch;
      compactor_epoch = m.compactor_epoch;
    }

-- each tree projected, dropped or passed on: the unsegmented one at place 0, its prefix empty, then the segments
unfoldable pub narrowed : Config → Manifest → Manifest
narrowed c m = with_trees m (tree_after (action_of c 0 []) m.tree) (segments_after c 1 m.segments) m.borrows

-- "Then borrowed ids not used by any view go, then borrows with no ids."
unfoldable pub with_used : Manifest → Manifest
with_used m = with_trees m m.tree m.segments (pruned (ids_used (all_views m)) m.borrows)

-- "None of them set copies the manifest unchanged."
unfoldable pub projected_of : Config → Manifest → Manifest
projected_of c m = pick (is_noop c) m (with_used (narrowed c m))
