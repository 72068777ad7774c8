-- What a row of each table says, word by word.
use Rattle.std.specs.Prelude.{ℕ, zero, suc, ◌+◌, ◌*◌, List, get_or, None, Option, Some}
use Rattle.keys.specs.declared.Bound.{Bound}
use Rattle.keys.specs.declared.Bound.TheVariants.{Unbounded, Included, Excluded}
use Rattle.ids.specs.declared.SstId.{SstId}
use Rattle.tables.specs.declared.Window.{Window}
use Rattle.records.specs.declared.Place.{Place}
use Rattle.records.specs.declared.ViewRow.{ViewRow}
use Rattle.records.specs.declared.RunRow.{RunRow}
use Rattle.records.specs.declared.TreeRow.{TreeRow}
use Rattle.records.specs.declared.SegmentRow.{SegmentRow}
use Rattle.records.specs.declared.BorrowRow.{BorrowRow}
use Rattle.ids.specs.declared.ViewId.{ViewId}
use Rattle.ids.specs.declared.Uuid.{Uuid}
use Rattle.keys.specs.declared.Range.{Range}

-- the word at i
abbrev pub at : List ℕ → ℕ → ℕ
at t i = get_or t i 0

-- two words: where a byte string stands and how long it is
abbrev pub place_at : List ℕ → ℕ → Place
place_at t b = record { at = at t b; len = at t (b + 1) }

-- two words: the first row and how many
abbrev pub window_at : List ℕ → ℕ → Window
window_at t b = record { first = at t b; count = at t (b + 1) }

-- three words: a code, 0 unbounded, 1 included, 2 excluded, and the place of its key
abbrev pub bound_of : ℕ → ℕ → ℕ → Bound
bound_of zero from len = Unbounded
bound_of (suc zero) from len = Included from len
bound_of (suc (suc k)) from len = Excluded from len

abbrev pub bound_at : List ℕ → ℕ → Bound
bound_at t b = bound_of (at t b) (at t (b + 1)) (at t (b + 2))

-- a code, 0 for what is not there, 1 for what is
abbrev pub optional : {A B : Type 0} → B → (A → B) → ℕ → A → B
optional none some zero x = none
optional none some (suc k) x = some x

-- three words: a code, and the place of the key
abbrev pub last_at : List ℕ → ℕ → Option Place
last_at t b = optional None Some (at t b) (place_at t (b + 1))

-- seven words: a code, and the range's two bounds
abbrev pub visible_at : List ℕ → ℕ → Option Range
visible_at t b = optional None Some (at t b) (record { start = bound_at t (b + 1); end = bound_at t (b + 4) })

-- three words: a code, and the two halves of an id, whatever type holds it
abbrev pub mark_at : {A : Type 0} → (ℕ → ℕ → A) → List ℕ → ℕ → Option A
mark_at of t b = optional None Some (at t b) (of (at t (b + 1)) (at t (b + 2)))

abbrev pub view_mark_at : List ℕ → ℕ → Option ViewId
view_mark_at t b = optional None Some (at t b) (record { 0 = at t (b + 1); 1 = at t (b + 2) })

abbrev pub sst_mark_at : List ℕ → ℕ → Option SstId
sst_mark_at t b = optional None Some (at t b) (record { 0 = at t (b + 1); 1 = at t (b + 2) })

abbrev pub final_at : List ℕ → ℕ → Option Uuid
final_at t b = optional None Some (at t b) (record { 0 = at t (b + 1); 1 = at t (b + 2) })

-- a view: 0 view id, 2 SST id, 4 first key, 6 last key, 9 visible range
unfoldable pub view_at : List ℕ → ℕ → ViewRow
view_at t i =
    record {
      id = record { 0 = at t (i * 16); 1 = at t (i * 16 + 1) };
      sst = record { 0 = at t (i * 16 + 2); 1 = at t (i * 16 + 3) };
      first = place_at t (i * 16 + 4);
      last = last_at t (i * 16 + 6);
      visible = visible_at t (i * 16 + 9);
    }

-- a run: 0 id, 1 views
unfoldable pub run_at : List ℕ → ℕ → RunRow
run_at t i = record { id = at t (i * 3); views = window_at t (i * 3 + 1) }

-- a tree: 0 view watermark, 3 SST watermark, 6 L0, 8 runs
unfoldable pub tree_at : List ℕ → ℕ → TreeRow
tree_at t b = record { view = view_mark_at t b; sst = sst_mark_at t (b + 3); l0 = window_at t (b + 6); compacted = window_at t (b + 8) }

-- a segment: 0 prefix, 2 tree
unfoldable pub segment_at : List ℕ → ℕ → SegmentRow
segment_at t i = record { prefix = place_at t (i * 12); tree = tree_at t (i * 12 + 2) }

-- a borrow: 0 path, 2 source checkpoint, 4 final checkpoint, 7 ids
unfoldable pub borrow_at : List ℕ → ℕ → BorrowRow
borrow_at t i =
    record {
      path = place_at t (i * 9);
      source = record { 0 = at t (i * 9 + 2); 1 = at t (i * 9 + 3) };
      fin = final_at t (i * 9 + 4);
      ids = window_at t (i * 9 + 7);
    }

-- an id: its two halves
unfoldable pub id_at : List ℕ → ℕ → SstId
id_at t i = record { 0 = at t (i * 2); 1 = at t (i * 2 + 1) }
