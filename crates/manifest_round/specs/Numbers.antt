-- A manifest of document 01: each number is of its field's width, "u32 id", "last_l0_clock_tick (i64)", ULIDs and UUIDs of 16 bytes, else u64.
use Rattle.std.specs.Prelude.{◌^◌, ◌<◌}
use Rattle.std.specs.Int.{w64}
use Rattle.std.proofs.Common.{SFits}
use Rattle.records.specs.Model.{View, Run, Tree, Segment, Borrow, Manifest}
use Rattle.manifest_round.specs.Fits.{Word, Halves, ViewMarkFits, SstMarkFits, FinalFits, IdFits, AllFit}

pub record ViewNumbers (v : View) : Type 0 where
  pub id : Halves v.id.0 v.id.1
  pub sst : Halves v.sst.0 v.sst.1

pub record RunNumbers (r : Run) : Type 0 where
  pub id : r.id < 2 ^ 32
  pub views : AllFit ViewNumbers r.views

pub record TreeNumbers (t : Tree) : Type 0 where
  pub view : ViewMarkFits t.view_mark
  pub sst : SstMarkFits t.sst_mark
  pub l0 : AllFit ViewNumbers t.l0
  pub runs : AllFit RunNumbers t.runs

abbrev pub SegmentNumbers : Segment → Type 0
SegmentNumbers s = TreeNumbers s.tree

pub record BorrowNumbers (b : Borrow) : Type 0 where
  pub source : Halves b.source.0 b.source.1
  pub final : FinalFits b.final
  pub ids : AllFit IdFits b.ids

pub record Numbers (m : Manifest) : Type 0 where
  pub tree : TreeNumbers m.tree
  pub segments : AllFit SegmentNumbers m.segments
  pub next : Word m.next_wal_sst_id
  pub replay : Word m.replay_after_wal_id
  pub tick : SFits w64 m.last_l0_clock_tick
  pub seq : Word m.last_l0_seq
  pub recent : Word m.recent_snapshot_min_seq
  pub borrows : AllFit BorrowNumbers m.borrows
  pub writer : Word m.writer_epoch
  pub compactor : Word m.compactor_epoch
