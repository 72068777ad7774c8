-- The selected segments as a view of the caller's own segment table.
use Rattle.std.specs.Prelude.{ℕ, zero, suc, ◌*◌, ◌/◌, List, [], ◌∷◌, map, length, take, drop, Err, None, Ok, Option, Result, Some}
use Rattle.std.proofs.Math.Seq.{slice}
use Rattle.tables.specs.Layout.{up_to}
use Rattle.tables.specs.Window.{held_of}
use Rattle.tables.specs.declared.Window.{Window}
use Rattle.records.specs.Model.{Segment}
use Rattle.records.specs.Row.{segment_at}
use Rattle.records.specs.Decode.{Lent, segment_in}
use Rattle.records.specs.declared.SegmentRow.{SegmentRow}
use Rattle.segments.specs.declared.Selected.TheVariants as select
use Rattle.window.specs.declared.SegmentWindow.{SegmentWindow}
use Rattle.segments.specs.declared.Selected.{Selected}
use Rattle.records.specs.declared.Refusal.{Refusal}

-- the rows of a table of segments, in order
abbrev pub rows_of : List ℕ → List SegmentRow
rows_of t = up_to (λ k. segment_at t k) (length t / 12)

-- the part of a table that holds the rows of a window; of one that points outside, nothing
unfoldable pub part_in : List ℕ → Window → List ℕ
part_in t w = take (held_of w (length t / 12) * 12) (drop (w.first * 12) t)

-- "the table reference with first and past-last index": the rows that these show, first, .., past - 1 of those that the table has
unfoldable pub shown : List ℕ → ℕ → ℕ → List SegmentRow
shown t first past = slice first past (rows_of t)

-- row i of some rows; past their end there is none
abbrev pub read_of : List SegmentRow → ℕ → Option SegmentRow
read_of [] i = None
read_of (r ∷ rs) zero = Some r
read_of (r ∷ rs) (suc i) = read_of rs i

-- "the window: demand 3's segments, 0 to 0 for none": what an answer names; "unsegmented" counts as no segment, and a refusal names none
abbrev pub first_in : Result Selected Refusal → ℕ
first_in (Ok select.Unsegmented) = 0
first_in (Ok (select.Window first past)) = first
first_in (Err r) = 0

abbrev pub past_in : Result Selected Refusal → ℕ
past_in (Ok select.Unsegmented) = 0
past_in (Ok (select.Window first past)) = past
past_in (Err r) = 0

-- "a thin struct holding the table reference with first and past-last index": what it holds, the table as it can be read
pub record View : Type 0 where
  pub table : List ℕ
  pub first : ℕ
  pub past : ℕ

abbrev pub view_of : SegmentWindow → View
view_of w = record { table = w.table.now; first = w.first; past = w.past }

-- "The window is handed back as a view of the caller's own segment table": the part that holds the manifest's segments, from whose first
-- the window counts, and what the answer names
abbrev pub selected_in : List ℕ → Window → Result Selected Refusal → View
selected_in t w s = record { table = part_in t w; first = first_in s; past = past_in s }

-- the segments that rows stand for, in the caller's other tables
abbrev pub segments_read : Lent → List SegmentRow → List Segment
segments_read l rs = map (segment_in l.runs l.views l.pool) rs
