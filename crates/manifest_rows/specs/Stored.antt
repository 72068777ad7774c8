-- Rows in lent working tables: what stands where, and what is as it was.
use Rattle.std.specs.Prelude.{ℕ, ◌+◌, ◌*◌, ◌/◌, ◌^◌, ◌≤◌, ◌<◌, ◌≡◌, List, [], ◌∷◌, ◌++◌, length, take, drop, Err, None, Ok, Option, Result, Some}
use Rattle.keys.specs.declared.Bound.{Bound}
use Rattle.keys.specs.declared.Bound.TheVariants.{Unbounded, Included, Excluded}
use Rattle.ids.specs.declared.SstId.{SstId}
use Rattle.records.specs.Model.{View, Run, Tree, Segment, Borrow, Manifest}
use Rattle.records.specs.Decode.{Lent, bytes_in, view_in, name_in}
use Rattle.records.specs.Words.{view_words, run_words, segment_words, borrow_words, id_words}
use Rattle.records.specs.declared.Place.{Place}
use Rattle.records.specs.declared.ViewRow.{ViewRow}
use Rattle.records.specs.declared.RunRow.{RunRow}
use Rattle.records.specs.declared.TreeRow.{TreeRow}
use Rattle.records.specs.declared.BorrowRow.{BorrowRow}
use Rattle.records.specs.declared.ManifestRow.{ManifestRow}
use Rattle.records.specs.declared.Fill.{Fill}
use Rattle.manifest_values.specs.Read.{Got, is, wrong, Trees}
use Rattle.manifest_rows.specs.declared.Cursor.{Cursor}
use Rattle.keys.specs.declared.Range.{Range}

-- xs stands in t from word n on
abbrev pub Stands : List ℕ → ℕ → List ℕ → Type 0
Stands t n xs = take (length xs) (drop n t) ≡ xs

-- of a table of rows of w words, the first n rows are as they were
pub record Kept (w n : ℕ) (t t' : List ℕ) : Type 0 where
  pub long : length t' ≡ length t
  pub same : take (n * w) t' ≡ take (n * w) t

-- row i was stored where the table has it, and the rows before it are as they were
pub record Laid (row : List ℕ) (i : ℕ) (t t' : List ℕ) : Type 0 where
  pub stands : i < length t / length row → Stands t' (i * length row) row
  pub kept : Kept (length row) i t t'

-- ---- what was read and filled in: `Step x σ σ'` says what filling x makes of the tables and cursors σ; `Under σ p` that no
-- cursor is above p, since every row takes a byte

pub record FilledIs {S A : Type 0} (Step : A → S → S → Type 0) (Under : S → ℕ → Type 0) (g : Got A) (σ σ' : S) (p : ℕ) : Type 0 where
  pub value : A
  pub read : g ≡ is value p
  pub step : Step value σ σ'
  pub under : Under σ' p

abbrev pub Filled : {S A : Type 0} → (A → S → S → Type 0) → (S → ℕ → Type 0) → Got A → S → S → Result ℕ ℕ → Type 0
Filled Step Under g σ σ' (Ok p) = FilledIs Step Under g σ σ' p
Filled Step Under g σ σ' (Err q) = g ≡ wrong q

-- some values in a row, each after those before it
pub data Steps {S A : Type 0} (Step : A → S → S → Type 0) : List A → S → S → Type 0 where
  none : {σ : S} → Steps Step [] σ σ
  more : {xs : List A} {x : A} {σ τ υ : S} → Steps Step xs σ τ → Step x τ υ → Steps Step (xs ++ (x ∷ [])) σ υ

-- a table, and its next row
pub record Table : Type 0 where
  pub words : List ℕ
  pub next : ℕ

abbrev pub table : List ℕ → ℕ → Table
table t i = record { words = t; next = i }

abbrev pub Under : Table → ℕ → Type 0
Under σ p = σ.next ≤ p

-- ---- views

abbrev pub PlaceIn : ℕ → Place → Type 0
PlaceIn n p = p.at + p.len ≤ n

abbrev pub BoundIn : ℕ → Bound → Type 0
BoundIn n Unbounded = Unit {0}
BoundIn n (Included from len) = from + len ≤ n
BoundIn n (Excluded from len) = from + len ≤ n

abbrev pub LastIn : ℕ → Option Place → Type 0
LastIn n None = Unit {0}
LastIn n (Some p) = PlaceIn n p

abbrev pub VisibleIn : ℕ → Option Range → Type 0
VisibleIn n None = Unit {0}
VisibleIn n (Some r) = BoundIn n r.start × BoundIn n r.end

-- a row whose places lie within s stands for v over s
pub record ViewOver (s : List ℕ) (row : ViewRow) (v : View) : Type 0 where
  pub is : view_in s row ≡ v
  pub first : PlaceIn (length s) row.first
  pub last : LastIn (length s) row.last
  pub visible : VisibleIn (length s) row.visible

-- row i of the table t stands for v
pub record ViewAt (s t : List ℕ) (i : ℕ) (v : View) : Type 0 where
  pub row : ViewRow
  pub stands : Stands t (i * 16) (view_words row)
  pub is : ViewOver s row v

pub record ViewStep (s : List ℕ) (v : View) (σ σ' : Table) : Type 0 where
  pub next : σ'.next ≡ σ.next + 1
  pub kept : Kept 16 σ.next σ.words σ'.words
  pub stored : σ.next < length σ.words / 16 → ViewAt s σ'.words σ.next v

-- ---- runs and their views, borrows and their ids: an outer table and an inner one

pub record Two : Type 0 where
  pub outer : Table
  pub inner : Table

abbrev pub two : List ℕ → List ℕ → Cursor → Two
two outer inner c = record { outer = table outer c.outer; inner = table inner c.inner }

abbrev pub UnderTwo : Two → ℕ → Type 0
UnderTwo σ p = (σ.outer.next ≤ p) × (σ.inner.next ≤ p)

-- `after c` is what the tables are where the cursors come to c
abbrev pub Moves : {A : Type 0} → (A → Two → Two → Type 0) → Got A → Two → (Cursor → Two) → Result (ℕ × Cursor) ℕ → Type 0
Moves Step g σ after (Ok (p, c)) = FilledIs Step UnderTwo g σ (after c) p
Moves Step g σ after (Err q) = g ≡ wrong q

abbrev pub run_row : Table → Run → RunRow
run_row views r = record { id = r.id; views = record { first = views.next; count = length r.views } }

pub record RunStep (s : List ℕ) (r : Run) (σ σ' : Two) : Type 0 where
  pub next : σ'.outer.next ≡ σ.outer.next + 1
  pub kept : Kept 3 σ.outer.next σ.outer.words σ'.outer.words
  pub views : Steps (ViewStep s) r.views σ.inner σ'.inner
  pub small : r.id < 2 ^ 32
  pub stored : σ.outer.next < length σ.outer.words / 3 → Stands σ'.outer.words (σ.outer.next * 3) (run_words (run_row σ.inner r))

pub record IdStep (x : SstId) (σ σ' : Table) : Type 0 where
  pub next : σ'.next ≡ σ.next + 1
  pub kept : Kept 2 σ.next σ.words σ'.words
  pub stored : σ.next < length σ.words / 2 → Stands σ'.words (σ.next * 2) (id_words x)

abbrev pub borrow_row : Place → Table → Borrow → BorrowRow
borrow_row path ids b = record { path = path; source = b.source; fin = b.final; ids = record { first = ids.next; count = length b.ids } }

-- a place within s holds the bytes k
abbrev pub PlaceOver : List ℕ → Place → List ℕ → Type 0
PlaceOver s p k = (bytes_in s p ≡ k) × PlaceIn (length s) p

pub record BorrowStep (s : List ℕ) (b : Borrow) (σ σ' : Two) : Type 0 where
  pub next : σ'.outer.next ≡ σ.outer.next + 1
  pub kept : Kept 9 σ.outer.next σ.outer.words σ'.outer.words
  pub ids : Steps IdStep b.ids σ.inner σ'.inner
  pub path : Place
  pub over : PlaceOver s path b.path
  pub stored : σ.outer.next < length σ.outer.words / 9 → Stands σ'.outer.words (σ.outer.next * 9) (borrow_words (borrow_row path σ.inner b))

-- ---- trees: L0, then runs; the tree's own row is a value

pub record TreeStep (s : List ℕ) (row : TreeRow) (t : Tree) (σ σ' : Two) : Type 0 where
  pub between : Table
  pub l0 : Steps (ViewStep s) t.l0 σ.inner between
  pub runs : Steps (RunStep s) t.runs (record { outer = σ.outer; inner = between }) σ'
  pub is : row ≡ record { view = t.view_mark; sst = t.sst_mark; l0 = record { first = σ.inner.next; count = length t.l0 }; compacted = record { first = σ.outer.next; count = length t.runs } }

abbrev pub TreeMoves : List ℕ → Got Tree → Two → (Cursor → Two) → Result (TreeRow × ℕ × Cursor) ℕ → Type 0
TreeMoves s g σ after (Ok (row, p, c)) = FilledIs (TreeStep s row) UnderTwo g σ (after c) p
TreeMoves s g σ after (Err q) = g ≡ wrong q

-- ---- segments, with the runs and views of their trees

pub record Three : Type 0 where
  pub segments : Table
  pub rest : Two

abbrev pub three : List ℕ → ℕ → List ℕ → List ℕ → Cursor → Three
three segments i runs views c = record { segments = table segments i; rest = two runs views c }

abbrev pub UnderThree : Three → ℕ → Type 0
UnderThree σ p = (σ.segments.next ≤ p) × UnderTwo σ.rest p

pub record SegmentStep (s : List ℕ) (g : Segment) (σ σ' : Three) : Type 0 where
  pub next : σ'.segments.next ≡ σ.segments.next + 1
  pub kept : Kept 12 σ.segments.next σ.segments.words σ'.segments.words
  pub prefix : Place
  pub over : PlaceOver s prefix g.prefix
  pub row : TreeRow
  pub tree : TreeStep s row g.tree σ.rest σ'.rest
  pub stored : σ.segments.next < length σ.segments.words / 12 → Stands σ'.segments.words (σ.segments.next * 12) (segment_words (record { prefix = prefix; tree = row }))

abbrev pub SegmentMoves : {A : Type 0} → (A → Three → Three → Type 0) → Got A → Three → (Cursor → Three) → Result (ℕ × Cursor) ℕ → Type 0
SegmentMoves Step g σ after (Ok (p, c)) = FilledIs Step UnderThree g σ (after c) p
SegmentMoves Step g σ after (Err q) = g ≡ wrong q

-- ---- a tree and the segments after it

pub record TreesStep (s : List ℕ) (row : TreeRow) (x : Trees) (σ σ' : Three) : Type 0 where
  pub between : Two
  pub tree : TreeStep s row x.tree σ.rest between
  pub segments : Steps (SegmentStep s) x.segments (record { segments = σ.segments; rest = between }) σ'

-- ---- the manifest: its own row is a value, and c counts the rows of every table; no byte is filled in, the input is the pool

abbrev pub NameIn : ℕ → Option Place → Type 0
NameIn n None = Unit {0}
NameIn n (Some p) = PlaceIn n p

abbrev pub manifest_row : Option Place → TreeRow → Manifest → ManifestRow
manifest_row name tree m =
    record {
      initialized = m.initialized;
      tree = tree;
      segments = record { first = 0; count = length m.segments };
      segment_extractor_name = name;
      next_wal_sst_id = m.next_wal_sst_id;
      replay_after_wal_id = m.replay_after_wal_id;
      last_l0_clock_tick = m.last_l0_clock_tick;
      last_l0_seq = m.last_l0_seq;
      recent_snapshot_min_seq = m.recent_snapshot_min_seq;
      external_dbs = record { first = 0; count = length m.borrows };
      writer_epoch = m.writer_epoch;
      compactor_epoch = m.compactor_epoch;
    }

abbrev pub start : Cursor
start = record { outer = 0; inner = 0 }

-- l are the tables before, l' those after, over the pool s
pub record ManifestStep (l l' : Lent) (row : ManifestRow) (c : Fill) (m : Manifest) : Type 0 where
  pub trees : TreesStep l.pool row.tree (record { tree = m.tree; segments = m.segments }) (three l.segments 0 l.runs l.views start) (three l'.segments c.segments l'.runs l'.views (record { outer = c.runs; inner = c.views }))
  pub borrows : Steps (BorrowStep l.pool) m.borrows (two l.borrows l.ids start) (two l'.borrows l'.ids (record { outer = c.borrows; inner = c.ids }))
  pub name : name_in l.pool row.segment_extractor_name ≡ m.extractor
  pub inside : NameIn (length l.pool) row.segment_extractor_name
  pub bytes : c.bytes ≡ 0
  pub is : row ≡ manifest_row row.segment_extractor_name row.tree m

pub record ManifestIs (g : Got Manifest) (l l' : Lent) (row : ManifestRow) (c : Fill) (p : ℕ) : Type 0 where
  pub value : Manifest
  pub read : g ≡ is value p
  pub step : ManifestStep l l' row c value

abbrev pub ManifestFilled : Got Manifest → Lent → Lent → Result (ManifestRow × Fill × ℕ) ℕ → Type 0
ManifestFilled g l l' (Ok (row, c, p)) = ManifestIs g l l' row c p
ManifestFilled g l l' (Err q) = g ≡ wrong q

abbrev pub lent : List ℕ → List ℕ → List ℕ → List ℕ → List ℕ → List ℕ → Lent
lent segments views runs borrows ids pool = record { segments = segments; views = views; runs = runs; borrows = borrows; ids = ids; pool = pool }
