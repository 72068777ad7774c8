-- Document 01's records, over plain lists. A key, a prefix, a path and a name are lists of bytes.
use Rattle.std.specs.Prelude.{ℕ, Bool, List, [], ◌∷◌, ℤ, Option}
use Rattle.keys.specs.Range.{Edge, unbounded, included, excluded, Edges}
use Rattle.keys.specs.Meet.{meet_of}
use Rattle.ids.specs.declared.ViewId.{ViewId}
use Rattle.ids.specs.declared.SstId.{SstId}
use Rattle.ids.specs.declared.Uuid.{Uuid}

-- "last key or unknown"
pub data LastKey : Type 0 where
  unknown : LastKey
  known : List ℕ → LastKey

-- "visible range or none"
pub data Seen : Type 0 where
  all : Seen
  only : Edges → Seen

-- "View: view id, SST id, first key, last key or unknown, visible range or none."
pub record View : Type 0 where
  pub id : ViewId
  pub sst : SstId
  pub first : List ℕ
  pub last : LastKey
  pub visible : Seen

-- "Run: u32 id, views."
pub record Run : Type 0 where
  pub id : ℕ
  pub views : List View

-- "Tree: optional view watermark, optional SST watermark, L0 views in order, runs in order."
pub record Tree : Type 0 where
  pub view_mark : Option ViewId
  pub sst_mark : Option SstId
  pub l0 : List View
  pub runs : List Run

-- "Segment: prefix, tree."
pub record Segment : Type 0 where
  pub prefix : List ℕ
  pub tree : Tree

-- "Borrow (`ExternalDb`): path, source checkpoint, optional final checkpoint, SST ids."
pub record Borrow : Type 0 where
  pub path : List ℕ
  pub source : Uuid
  pub final : Option Uuid
  pub ids : List SstId

-- "extractor name or none"
pub data Extractor : Type 0 where
  none : Extractor
  named : List ℕ → Extractor

-- "Manifest: initialized, unsegmented tree, segments, extractor name or none, next_wal_sst_id, replay_after_wal_id,
-- last_l0_clock_tick (i64), last_l0_seq, recent_snapshot_min_seq, borrows, writer epoch, compactor epoch."
pub record Manifest : Type 0 where
  pub initialized : Bool
  pub tree : Tree
  pub segments : List Segment
  pub extractor : Extractor
  pub next_wal_sst_id : ℕ
  pub replay_after_wal_id : ℕ
  pub last_l0_clock_tick : ℤ
  pub last_l0_seq : ℕ
  pub recent_snapshot_min_seq : ℕ
  pub borrows : List Borrow
  pub writer_epoch : ℕ
  pub compactor_epoch : ℕ

-- ---- the ranges of a view

abbrev pub last_end : LastKey → Edge
last_end unknown = unbounded
last_end (known k) = included k

-- "Physical range: first key included, to last key included or unbounded."
abbrev pub physical : View → Edges
physical v = record { start = included v.first; end = last_end v.last }

-- every key is visible where no range is given
abbrev pub seen_edges : Seen → Edges
seen_edges all = record { start = unbounded; end = unbounded }
seen_edges (only r) = r

-- "Effective: physical met with visible."
abbrev pub effective : View → Edges
effective v = meet_of (physical v) (seen_edges v.visible)

abbrev pub next_end : View → List View → Edge
next_end v [] = last_end v.last
next_end v (w ∷ ws) = excluded w.first

-- "Span: as physical, but ending at the next view's first key, excluded, if its run has a next view; met with visible."
abbrev pub span : View → List View → Edges
span v later = meet_of (record { start = included v.first; end = next_end v later }) (seen_edges v.visible)

-- ---- all of a manifest

-- the trees of a manifest: the unsegmented one, then those of the segments in order
abbrev pub segment_trees : List Segment → List Tree
segment_trees [] = []
segment_trees (s ∷ ss) = s.tree ∷ segment_trees ss

abbrev pub trees : Manifest → List Tree
trees m = m.tree ∷ segment_trees m.segments
