-- The steps that the code takes over the rows of both segment lists. No public promise speaks of them.
use Rattle.std.specs.Prelude.{ℕ, ◌+◌, ◌/◌, Bool, ◌&&◌, List, [], ◌∷◌, eqb, length, drop, None, Option, Some}
use Rattle.keys.specs.Pick.{pick}
use Rattle.keys.specs.Key.{order_of}
use Rattle.std.specs.declared.cmp.Ordering.{Ordering}
use Rattle.std.specs.declared.cmp.Ordering.TheVariants.{Less, Equal, Greater}
use Rattle.tables.specs.Layout.{up_to}
use Rattle.tables.specs.Window.{held_of}
use Rattle.tables.specs.declared.Window.{Window}
use Rattle.records.specs.Model.{Segment}
use Rattle.records.specs.Row.{segment_at}
use Rattle.records.specs.Decode.{bytes_in, tree_in, segment_in}
use Rattle.records.specs.Fill.{sum, fits, segments, view_keys, segment_fill}
use Rattle.records.specs.declared.Fill.{Fill}
use Rattle.records.specs.declared.Limits.{Limits}
use Rattle.records.specs.declared.Place.{Place}
use Rattle.records.specs.declared.TreeRow.{TreeRow}
use Rattle.records.specs.declared.SegmentRow.{SegmentRow}
use Rattle.measure.specs.Tests.{all_of}
use Rattle.measure.specs.Within.{tree_views, short}
use Rattle.measure.specs.Placed.{key_in, tree_placed}
use Rattle.measure.specs.Walk.{then, add_of, segment_row_walk}
use Rattle.merge.specs.Merge.{from_writer, from_compactor}
use Rattle.merge.specs.Rows.{merged_tree}
use Rattle.merge.specs.declared.Side.{Side}
use Rattle.merge.specs.declared.Side.TheVariants.{Writer, Compactor}
use Rattle.merge.specs.declared.MergeStep.{MergeStep}
use Rattle.merge.specs.declared.MergeStep.TheVariants.{End, WriterOnly, CompactorOnly, Both}
use Rattle.merge.specs.declared.Next.{Next}

-- the segment rows of a window
abbrev pub rows_in : List ℕ → Window → List SegmentRow
rows_in segments w = up_to (λ k. segment_at segments (w.first + k)) (held_of w (length segments / 12))

-- the segments of some rows
abbrev pub segments_of : List ℕ → List ℕ → List ℕ → List SegmentRow → List Segment
segments_of runs views pool [] = []
segments_of runs views pool (s ∷ ss) = segment_in runs views pool s ∷ segments_of runs views pool ss

-- ---- the next step: the row with the lower prefix, or both

abbrev pub step_by : Ordering → SegmentRow → SegmentRow → MergeStep
step_by Less w c = WriterOnly w
step_by Equal w c = Both w c
step_by Greater w c = CompactorOnly c

unfoldable pub step_of : List ℕ → List SegmentRow → List SegmentRow → MergeStep
step_of pool [] [] = End
step_of pool (w ∷ ws) [] = WriterOnly w
step_of pool [] (c ∷ cs) = CompactorOnly c
step_of pool (w ∷ ws) (c ∷ cs) = step_by (order_of (bytes_in pool w.prefix) (bytes_in pool c.prefix)) w c

-- how many rows of each side a step takes
abbrev pub writer_taken : MergeStep → ℕ
writer_taken End = 0
writer_taken (WriterOnly w) = 1
writer_taken (CompactorOnly c) = 0
writer_taken (Both w c) = 1

abbrev pub compactor_taken : MergeStep → ℕ
compactor_taken End = 0
compactor_taken (WriterOnly w) = 0
compactor_taken (CompactorOnly c) = 1
compactor_taken (Both w c) = 1

-- ---- what a step gives

-- "A tree newly entered, or standing for an absent one, has no watermarks either."
abbrev pub new_row : TreeRow
new_row =
    record {
      view = None;
      sst = None;
      l0 = record { first = 0; count = 0 };
      compacted = record { first = 0; count = 0 };
    }

abbrev pub merged_row : List ℕ → Place → TreeRow → TreeRow → SegmentRow
merged_row views p w c = record { prefix = p; tree = merged_tree views w c }

abbrev pub writer_keep : List ℕ → MergeStep → Option SegmentRow
writer_keep views End = None
writer_keep views (WriterOnly w) = Some (merged_row views w.prefix w.tree new_row)
writer_keep views (CompactorOnly c) = None
writer_keep views (Both w c) = Some (merged_row views w.prefix w.tree c.tree)

-- "Empty means no L0 and no run, watermarks ignored."
abbrev pub empty_row : List ℕ → List ℕ → TreeRow → Bool
empty_row views runs t = eqb (held_of t.l0 (length views / 16)) 0 && eqb (held_of t.compacted (length runs / 3)) 0

abbrev pub filled_keep : List ℕ → List ℕ → SegmentRow → Option SegmentRow
filled_keep views runs s = pick (empty_row views runs s.tree) None (Some s)

abbrev pub compactor_keep : List ℕ → List ℕ → MergeStep → Option SegmentRow
compactor_keep views runs End = None
compactor_keep views runs (WriterOnly w) = filled_keep views runs (merged_row views w.prefix w.tree new_row)
compactor_keep views runs (CompactorOnly c) = filled_keep views runs (merged_row views c.prefix new_row c.tree)
compactor_keep views runs (Both w c) = filled_keep views runs (merged_row views w.prefix w.tree c.tree)

abbrev pub keep_by : Side → List ℕ → List ℕ → MergeStep → Option SegmentRow
keep_by Writer views runs s = writer_keep views s
keep_by Compactor views runs s = compactor_keep views runs s

-- the segment that is kept, if one is
abbrev pub keep_in : List ℕ → List ℕ → List ℕ → Option SegmentRow → List Segment
keep_in runs views pool None = []
keep_in runs views pool (Some s) = segment_in runs views pool s ∷ []

-- which merge
abbrev pub merged_from : Side → List Segment → List Segment → List Segment
merged_from Writer ws cs = from_writer ws cs
merged_from Compactor ws cs = from_compactor ws cs

-- the step from row i of the writer's segments and row j of the compactor's
abbrev pub step_at : List ℕ → List ℕ → Window → Window → ℕ → ℕ → MergeStep
step_at segments pool w c i j = step_of pool (drop i (rows_in segments w)) (drop j (rows_in segments c))

unfoldable pub next_of : Side → List ℕ → List ℕ → List ℕ → List ℕ → Window → Window → ℕ → ℕ → Next
next_of side segments views runs pool w c i j =
    record {
      keep = keep_by side views runs (step_at segments pool w c i j);
      i = i + writer_taken (step_at segments pool w c i j);
      j = j + compactor_taken (step_at segments pool w c i j);
    }

-- ---- what is kept, measured

-- a row's part of L1: it lies within the tables, and its byte strings are short enough
unfoldable pub row_kept : Limits → List ℕ → List ℕ → List ℕ → SegmentRow → Bool
row_kept lim views runs pool s =
    (key_in (length pool) s.prefix && tree_placed (length pool) views runs s.tree)
    && (short lim.prefix (bytes_in pool s.prefix) && all_of (λ v. all_of (short lim.key) (view_keys v)) (tree_views (tree_in runs views pool s.tree)))

abbrev pub keep_walk : Limits → List ℕ → List ℕ → ℕ → Option SegmentRow → Fill → Option Fill
keep_walk lim views runs n None c = Some c
keep_walk lim views runs n (Some s) c = then (add_of lim.fill c (segments 1)) (segment_row_walk lim views runs n s)

-- what some segments fill, where it is within the limits
unfoldable pub list_measured : Limits → List Segment → Option Fill
list_measured lim ss = pick (fits (sum segment_fill ss) lim.fill) (Some (sum segment_fill ss)) None
