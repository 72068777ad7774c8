-- Parts of what is read, for the functions that read them one after the other: what stands before a list, and a manifest's two halves.
-- No public promise speaks of it.
use Rattle.std.specs.Prelude.{ℕ, ◌-◌, ◌^◌, ◌≡◌, Bool, List, length, Err, Ok, Option, Result}
use Rattle.records.specs.Model.{Borrow, Extractor}
use Rattle.records.specs.Decode.{name_in}
use Rattle.records.specs.declared.Fill.{Fill}
use Rattle.records.specs.declared.ManifestRow.{ManifestRow}
use Rattle.msgpack.specs.Read.{uint_at, flag_at, id_at, group_at, list_at, on_uint, on_flag, on_id, on_group}
use Rattle.manifest_values.specs.Read.{Got, is, wrong, on, ended, view_mark_at, sst_mark_at, final_at, Trees, trees_at, name_at, numbers_at, borrows_at, epochs_at}
use Rattle.manifest_values.specs.Rows.{place_at}
use Rattle.manifest_values.specs.declared.Numbers.{Numbers}
use Rattle.manifest_values.specs.declared.Epochs.{Epochs}
use Rattle.manifest_rows.specs.declared.Cursor.{Cursor}
use Rattle.manifest_rows.specs.declared.RunHead.{RunHead}
use Rattle.manifest_rows.specs.declared.BorrowHead.{BorrowHead}
use Rattle.manifest_rows.specs.declared.TreeHead.{TreeHead}
use Rattle.manifest_rows.specs.declared.First.{First}
use Rattle.manifest_rows.specs.Stored.{Steps, Two, Three, BorrowStep, TreesStep, NameIn}
use Rattle.records.specs.declared.Place.{Place}

-- ---- what stands before a record's list: how many elements the record has, its values up to there, how many the list has

-- `run_at` up to its views
unfoldable pub run_head_at : List ℕ → ℕ → Got RunHead
run_head_at s at =
    on_group wrong (group_at s at 2) λ n p₀. on_uint wrong (uint_at s p₀ (2 ^ 32 - 1)) λ id p₁. on_group wrong (list_at s p₁) λ k p₂.
    is (record { parts = n; id = id; views = k }) p₂

-- `borrow_at` up to its ids
unfoldable pub borrow_head_at : List ℕ → ℕ → Got BorrowHead
borrow_head_at s at =
    on_group wrong (group_at s at 4) λ n p₀. on (place_at s p₀) λ path p₁. on_id wrong (id_at s p₁) λ hi lo p₂. on (final_at s p₂) λ f p₃. on_group wrong (list_at s p₃) λ k p₄.
    is (record { parts = n; path = path; source = (hi, lo); fin = f; ids = k }) p₄

-- `tree_at` up to the views of its L0
unfoldable pub tree_head_at : List ℕ → ℕ → Got TreeHead
tree_head_at s at =
    on_group wrong (group_at s at 4) λ n p₀. on (view_mark_at s p₀) λ v p₁. on (sst_mark_at s p₁) λ x p₂. on_group wrong (list_at s p₂) λ k p₃.
    is (record { parts = n; view = v; sst = x; views = k }) p₃

-- ---- a manifest's two halves: what was read, and what it makes of the tables

-- a value was read that ends before p, and the step holds of it
pub record ReadAs {A : Type 0} (Step : A → Type 0) (g : Got A) (p : ℕ) : Type 0 where
  pub value : A
  pub read : g ≡ is value p
  pub step : Step value

-- "initialized, unsegmented tree, segments", of a manifest with so many elements
pub record FirstHalf : Type 0 where
  pub parts : ℕ
  pub initialized : Bool
  pub trees : Trees

-- `manifest_at` up to its segments
unfoldable pub first_at : List ℕ → ℕ → Got FirstHalf
first_at s at =
    on_group wrong (group_at s at 12) λ n p₀. on_flag wrong (flag_at s p₀) λ init p₁. on (trees_at s p₁) λ t p₂.
    is (record { parts = n; initialized = init; trees = t }) p₂

-- the code's first half is that of the bytes, and the tables went from σ to σ' by its trees
pub record FirstStep (s : List ℕ) (x : First) (h : FirstHalf) (σ σ' : Three) : Type 0 where
  pub parts : x.parts ≡ h.parts
  pub initialized : x.initialized ≡ h.initialized
  pub trees : TreesStep s x.tree h.trees σ σ'

-- what reading the first half answers
abbrev pub FirstMoves : List ℕ → Got FirstHalf → Three → (ℕ → Cursor → Three) → Result (First × ℕ) ℕ → Type 0
FirstMoves s g σ after (Ok (x, p)) = ReadAs (λ h. FirstStep s x h σ (after x.segments x.trees)) g p
FirstMoves s g σ after (Err q) = g ≡ wrong q

-- "extractor name or none, next_wal_sst_id, replay_after_wal_id, last_l0_clock_tick (i64), last_l0_seq, recent_snapshot_min_seq, borrows,
-- writer epoch, compactor epoch"
pub record SecondHalf : Type 0 where
  pub extractor : Extractor
  pub numbers : Numbers
  pub borrows : List Borrow
  pub epochs : Epochs

-- `manifest_at` with n elements, from its extractor's name on
unfoldable pub second_at : List ℕ → ℕ → ℕ → Got SecondHalf
second_at s n at =
    on (name_at s at) λ name p₀. on (numbers_at s p₀) λ x p₁. on (borrows_at s p₁) λ bs p₂. on (epochs_at s p₂) λ e p₃.
    ended s n 12 (record { extractor = name; numbers = x; borrows = bs; epochs = e }) p₃

-- the row of a manifest with these halves
abbrev pub row_of : First → Option Place → SecondHalf → ManifestRow
row_of x name h =
    record {
      initialized = x.initialized;
      tree = x.tree;
      segments = record { first = 0; count = x.segments };
      segment_extractor_name = name;
      next_wal_sst_id = h.numbers.next_wal_sst_id;
      replay_after_wal_id = h.numbers.replay_after_wal_id;
      last_l0_clock_tick = h.numbers.last_l0_clock_tick;
      last_l0_seq = h.numbers.last_l0_seq;
      recent_snapshot_min_seq = h.numbers.recent_snapshot_min_seq;
      external_dbs = record { first = 0; count = length h.borrows };
      writer_epoch = h.epochs.writer;
      compactor_epoch = h.epochs.compactor;
    }

-- how many rows it has in each table: d counts those of its borrows
abbrev pub fill_of : First → Cursor → Fill
fill_of x d = record { segments = x.segments; views = x.trees.inner; runs = x.trees.outer; borrows = d.outer; ids = d.inner; bytes = 0 }

-- the row and the counts are those of both halves, and the tables went from σ by the borrows
pub record SecondStep (s : List ℕ) (x : First) (row : ManifestRow) (c : Fill) (h : SecondHalf) (σ : Two) (after : Cursor → Two) : Type 0 where
  pub name : Option Place
  pub over : name_in s name ≡ h.extractor
  pub inside : NameIn (length s) name
  pub is : row ≡ row_of x name h
  pub cursor : Cursor
  pub borrows : Steps (BorrowStep s) h.borrows σ (after cursor)
  pub counts : c ≡ fill_of x cursor

-- what reading the second half answers
abbrev pub SecondMoves : List ℕ → First → Got SecondHalf → Two → (Cursor → Two) → Result (ManifestRow × Fill × ℕ) ℕ → Type 0
SecondMoves s x g σ after (Ok (row, c, p)) = ReadAs (λ h. SecondStep s x row c h σ after) g p
SecondMoves s x g σ after (Err q) = g ≡ wrong q
