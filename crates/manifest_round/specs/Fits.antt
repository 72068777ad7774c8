-- A manifest whose numbers fit their fields: what MessagePack can hold of it.
use Rattle.std.specs.Prelude.{ℕ, ◌^◌, ◌<◌, List, [], ◌∷◌, length, None, Option, Some}
use Rattle.std.specs.Int.{w64}
use Rattle.std.proofs.Common.{SFits}
use Rattle.keys.specs.Range.{Edge, unbounded, included, excluded}
use Rattle.ids.specs.declared.SstId.{SstId}
use Rattle.records.specs.Model.{LastKey, unknown, known, Seen, all, only, View, Run, Tree, Segment, Borrow, Extractor, none, named, Manifest}
use Rattle.ids.specs.declared.ViewId.{ViewId}
use Rattle.ids.specs.declared.Uuid.{Uuid}

-- a number of 64 bits
abbrev pub Word : ℕ → Type 0
Word x = x < 2 ^ 64

-- the two halves of an id
abbrev pub Halves : ℕ → ℕ → Type 0
Halves hi lo = Word hi × Word lo

abbrev pub ViewMarkFits : Option ViewId → Type 0
ViewMarkFits None = Unit {0}
ViewMarkFits (Some x) = Halves x.0 x.1

abbrev pub SstMarkFits : Option SstId → Type 0
SstMarkFits None = Unit {0}
SstMarkFits (Some x) = Halves x.0 x.1

abbrev pub FinalFits : Option Uuid → Type 0
FinalFits None = Unit {0}
FinalFits (Some x) = Halves x.0 x.1

-- the longest bin, and the longest array
abbrev pub Short : ℕ → Type 0
Short n = n < 2 ^ 32

abbrev pub EdgeFits : Edge → Type 0
EdgeFits unbounded = Unit {0}
EdgeFits (included k) = Short (length k)
EdgeFits (excluded k) = Short (length k)

abbrev pub SeenFits : Seen → Type 0
SeenFits all = Unit {0}
SeenFits (only r) = EdgeFits r.start × EdgeFits r.end

abbrev pub LastFits : LastKey → Type 0
LastFits unknown = Unit {0}
LastFits (known k) = Short (length k)

abbrev pub NameFits : Extractor → Type 0
NameFits none = Unit {0}
NameFits (named k) = Short (length k)

abbrev pub AllFit : {A : Type 0} → (A → Type 0) → List A → Type 0
AllFit P [] = Unit {0}
AllFit P (x ∷ xs) = P x × AllFit P xs

pub record ListFits {A : Type 0} (P : A → Type 0) (xs : List A) : Type 0 where
  pub short : Short (length xs)
  pub each : AllFit P xs

pub record ViewFits (v : View) : Type 0 where
  pub id : Halves v.id.0 v.id.1
  pub sst : Halves v.sst.0 v.sst.1
  pub first : Short (length v.first)
  pub last : LastFits v.last
  pub visible : SeenFits v.visible

pub record RunFits (r : Run) : Type 0 where
  pub id : r.id < 2 ^ 32
  pub views : ListFits ViewFits r.views

pub record TreeFits (t : Tree) : Type 0 where
  pub view : ViewMarkFits t.view_mark
  pub sst : SstMarkFits t.sst_mark
  pub l0 : ListFits ViewFits t.l0
  pub runs : ListFits RunFits t.runs

pub record SegmentFits (s : Segment) : Type 0 where
  pub prefix : Short (length s.prefix)
  pub tree : TreeFits s.tree

abbrev pub IdFits : SstId → Type 0
IdFits x = Halves x.0 x.1

pub record BorrowFits (b : Borrow) : Type 0 where
  pub path : Short (length b.path)
  pub source : Halves b.source.0 b.source.1
  pub final : FinalFits b.final
  pub ids : ListFits IdFits b.ids

pub record ManifestFits (m : Manifest) : Type 0 where
  pub tree : TreeFits m.tree
  pub segments : ListFits SegmentFits m.segments
  pub name : NameFits m.extractor
  pub next : Word m.next_wal_sst_id
  pub replay : Word m.replay_after_wal_id
  pub tick : SFits w64 m.last_l0_clock_tick
  pub seq : Word m.last_l0_seq
  pub recent : Word m.recent_snapshot_min_seq
  pub borrows : ListFits BorrowFits m.borrows
  pub writer : Word m.writer_epoch
  pub compactor : Word m.compactor_epoch
