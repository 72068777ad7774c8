-- Which manifest stands in the lent tables.
use Rattle.records.specs.declared.Tables.{Tables}
use Rattle.std.specs.Prelude.{ℕ, ◌+◌, ◌/◌, List, length, None, Option, Some}
use Rattle.keys.specs.Pool.{part_of, edges_of}
use Rattle.ids.specs.declared.SstId.{SstId}
use Rattle.tables.specs.Layout.{up_to}
use Rattle.tables.specs.Window.{held_of}
use Rattle.tables.specs.declared.Window.{Window}
use Rattle.records.specs.Model.{LastKey, unknown, known, Seen, all, only, View, Run, Tree, Segment, Borrow, Extractor, none, named, Manifest}
use Rattle.records.specs.Row.{view_at, run_at, segment_at, borrow_at, id_at}
use Rattle.records.specs.declared.Place.{Place}
use Rattle.records.specs.declared.ViewRow.{ViewRow}
use Rattle.records.specs.declared.RunRow.{RunRow}
use Rattle.records.specs.declared.TreeRow.{TreeRow}
use Rattle.records.specs.declared.SegmentRow.{SegmentRow}
use Rattle.records.specs.declared.BorrowRow.{BorrowRow}
use Rattle.records.specs.declared.ManifestRow.{ManifestRow}
use Rattle.keys.specs.declared.Range.{Range}

-- the six lent tables: five of words, and the pool of bytes
pub record Lent : Type 0 where
  pub segments : List ℕ
  pub views : List ℕ
  pub runs : List ℕ
  pub borrows : List ℕ
  pub ids : List ℕ
  pub pool : List ℕ

-- what the tables hold that a caller lends
abbrev pub lent_of : Tables → Lent
lent_of t = record { segments = t.segments.now; views = t.views.now; runs = t.runs.now; borrows = t.borrows.now; ids = t.ids.now; pool = t.pool.now }

-- the bytes of a place
abbrev pub bytes_in : List ℕ → Place → List ℕ
bytes_in pool p = part_of pool p.at p.len

abbrev pub last_in : List ℕ → Option Place → LastKey
last_in pool None = unknown
last_in pool (Some p) = known (bytes_in pool p)

abbrev pub seen_in : List ℕ → Option Range → Seen
seen_in pool None = all
seen_in pool (Some r) = only (edges_of pool r)

unfoldable pub view_in : List ℕ → ViewRow → View
view_in pool v =
    record { id = v.id; sst = v.sst; first = bytes_in pool v.first; last = last_in pool v.last; visible = seen_in pool v.visible }

-- the views of a window
unfoldable pub views_in : List ℕ → List ℕ → Window → List View
views_in views pool w = up_to (λ k. view_in pool (view_at views (w.first + k))) (held_of w (length views / 16))

unfoldable pub run_in : List ℕ → List ℕ → RunRow → Run
run_in views pool r = record { id = r.id; views = views_in views pool r.views }

unfoldable pub runs_in : List ℕ → List ℕ → List ℕ → Window → List Run
runs_in runs views pool w = up_to (λ k. run_in views pool (run_at runs (w.first + k))) (held_of w (length runs / 3))

unfoldable pub tree_in : List ℕ → List ℕ → List ℕ → TreeRow → Tree
tree_in runs views pool t =
    record { view_mark = t.view; sst_mark = t.sst; l0 = views_in views pool t.l0; runs = runs_in runs views pool t.compacted }

unfoldable pub segment_in : List ℕ → List ℕ → List ℕ → SegmentRow → Segment
segment_in runs views pool s = record { prefix = bytes_in pool s.prefix; tree = tree_in runs views pool s.tree }

unfoldable pub segments_in : List ℕ → List ℕ → List ℕ → List ℕ → Window → List Segment
segments_in segments runs views pool w = up_to (λ k. segment_in runs views pool (segment_at segments (w.first + k))) (held_of w (length segments / 12))

unfoldable pub ids_in : List ℕ → Window → List SstId
ids_in ids w = up_to (λ k. id_at ids (w.first + k)) (held_of w (length ids / 2))

unfoldable pub borrow_in : List ℕ → List ℕ → BorrowRow → Borrow
borrow_in ids pool b =
    record { path = bytes_in pool b.path; source = b.source; final = b.fin; ids = ids_in ids b.ids }

unfoldable pub borrows_in : List ℕ → List ℕ → List ℕ → Window → List Borrow
borrows_in borrows ids pool w = up_to (λ k. borrow_in ids pool (borrow_at borrows (w.first + k))) (held_of w (length borrows / 9))

abbrev pub name_in : List ℕ → Option Place → Extractor
name_in pool None = none
name_in pool (Some p) = named (bytes_in pool p)

unfoldable pub manifest_in : Lent → ManifestRow → Manifest
manifest_in l m =
    record {
      initialized = m.initialized;
      tree = tree_in l.runs l.views l.pool m.tree;
      segments = segments_in l.segments l.runs l.views l.pool m.segments;
      extractor = name_in l.pool m.segment_extractor_name;
      next_wal_sst_id = m.next_wal_sst_id;
      replay_after_wal_id = m.replay_after_wal_id;
      last_l0_clock_tick = m.last_l0_clock_tick;
      last_l0_seq = m.last_l0_seq;
      recent_snapshot_min_seq = m.recent_snapshot_min_seq;
      borrows = borrows_in l.borrows l.ids l.pool m.external_dbs;
      writer_epoch = m.writer_epoch;
      compactor_epoch = m.compactor_epoch;
    }
