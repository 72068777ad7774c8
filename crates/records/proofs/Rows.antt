-- The words of a row read back as the row, wherever they stand in a table. Assumes nothing.
use Rattle.std.specs.Prelude.{None, Option, Some}
use Prim.Native.Nat.{ℕ, ◌*◌}
use mathlib.Core.Path.{◌≡◌, refl}
use mathlib.Core.List.{List}
use native.Mathlib.Nat.{add_assoc}
use lib.ListN.{length}
use Rattle.keys.specs.declared.Bound.{Bound}
use Rattle.keys.specs.declared.Bound.TheVariants.{Unbounded, Included, Excluded}
use Rattle.ids.specs.declared.SstId.{SstId}
use Rattle.tables.proofs.Holds.{Holds, holds_head, holds_word}
use Rattle.records.specs.Row.{bound_of, optional, view_at, run_at, tree_at, segment_at, borrow_at, id_at}
use Rattle.records.specs.Words.{bound_cell, last_cell, view_mark_cell, sst_mark_cell, final_cell, visible_cells, view_words, run_words, tree_words, segment_words, borrow_words, id_words}
use Rattle.records.specs.declared.Cell.{Cell}
use Rattle.records.specs.declared.ViewRow.{ViewRow}
use Rattle.records.specs.declared.RunRow.{RunRow}
use Rattle.records.specs.declared.SegmentRow.{SegmentRow}
use Rattle.records.specs.declared.BorrowRow.{BorrowRow}
use Rattle.ids.specs.declared.ViewId.{ViewId}
use Rattle.ids.specs.declared.Uuid.{Uuid}
use Rattle.records.specs.declared.Place.{Place}
use Rattle.keys.specs.declared.Range.{Range}

-- ---- a code and its numbers

-- the bound that a cell's words are read as
abbrev pub bound_in : Cell → Bound
bound_in c = bound_of c.code c.a c.b

pub bound_back : (b : Bound) → bound_in (bound_cell b) ≡ b
bound_back Unbounded = refl
bound_back (Included from len) = refl
bound_back (Excluded from len) = refl

pub last_back : (l : Option Place) → optional None Some (last_cell l).code (record { at = (last_cell l).a; len = (last_cell l).b }) ≡ l
last_back None = refl
last_back (Some p) = refl

pub visible_back : (v : Option Range)
    → optional None Some (visible_cells v).code (record { start = bound_in (visible_cells v).start; end = bound_in (visible_cells v).end }) ≡ v
visible_back None = refl
visible_back (Some r) = rw (bound_back r.start, bound_back r.end)

pub view_mark_back : (m : Option ViewId) → optional None Some (view_mark_cell m).code (record { 0 = (view_mark_cell m).a; 1 = (view_mark_cell m).b }) ≡ m
view_mark_back None = refl
view_mark_back (Some x) = refl

pub sst_mark_back : (m : Option SstId) → optional None Some (sst_mark_cell m).code (record { 0 = (sst_mark_cell m).a; 1 = (sst_mark_cell m).b }) ≡ m
sst_mark_back None = refl
sst_mark_back (Some x) = refl

pub final_back : (f : Option Uuid) → optional None Some (final_cell f).code (record { 0 = (final_cell f).a; 1 = (final_cell f).b }) ≡ f
final_back None = refl
final_back (Some x) = refl

-- ---- rows

pub view_wide : (v : ViewRow) → length (view_words v) ≡ 16
unfolding view_words
view_wide v = refl

pub run_wide : (r : RunRow) → length (run_words r) ≡ 3
unfolding run_words
run_wide r = refl

pub segment_wide : (s : SegmentRow) → length (segment_words s) ≡ 12
unfolding segment_words tree_words
segment_wide s = refl

pub borrow_wide : (b : BorrowRow) → length (borrow_words b) ≡ 9
unfolding borrow_words
borrow_wide b = refl

pub id_wide : (x : SstId) → length (id_words x) ≡ 2
unfolding id_words
id_wide x = refl

module _ (t : List ℕ) (i : ℕ) where
  pub id_at_back : (x : SstId) → Holds t (i * 2) (id_words x) → id_at t i ≡ x
  unfolding id_at id_words
  id_at_back x h = simp (holds_head t (i * 2) (id_words x) h, holds_word t (i * 2) (id_words x) h)

  pub run_at_back : (r : RunRow) → Holds t (i * 3) (run_words r) → run_at t i ≡ r
  unfolding run_at run_words
  run_at_back r h = simp (add_assoc, holds_head t (i * 3) (run_words r) h, holds_word t (i * 3) (run_words r) h)

  pub view_at_back : (v : ViewRow) → Holds t (i * 16) (view_words v) → view_at t i ≡ v
  unfolding view_at view_words
  view_at_back v h =
      simp (add_assoc, holds_head t (i * 16) (view_words v) h, holds_word t (i * 16) (view_words v) h, last_back, visible_back)

  pub segment_at_back : (s : SegmentRow) → Holds t (i * 12) (segment_words s) → segment_at t i ≡ s
  unfolding segment_at tree_at segment_words tree_words
  segment_at_back s h =
      simp
      (add_assoc, holds_head t (i * 12) (segment_words s) h, holds_word t (i * 12) (segment_words s) h, view_mark_back, sst_mark_back)

  pub borrow_at_back : (b : BorrowRow) → Holds t (i * 9) (borrow_words b) → borrow_at t i ≡ b
  unfolding borrow_at borrow_words
  borrow_at_back b h =
      simp (add_assoc, holds_head t (i * 9) (borrow_words b) h, holds_word t (i * 9) (borrow_words b) h, final_back)
