-- The walks that look for what refusals 6 and 7 speak of. No public promise speaks of them.
use Rattle.std.specs.Prelude.{ℕ, ◌+◌, Bool, false, not, List, ◌∷◌, None, Option, Some}
use Rattle.keys.specs.Pick.{pick}
use Rattle.keys.specs.Prefix.{begins_of}
use Rattle.tables.specs.declared.Window.{Window}
use Rattle.records.specs.Model.{Segment}
use Rattle.records.specs.Decode.{bytes_in}
use Rattle.records.specs.declared.Refusal.TheVariants as refusal
use Rattle.merge.specs.Merge.{refuses6, place6, from_compactor, refuses7, place7, nests, nests_at}
use Rattle.merge.specs.Steps.{step_at, writer_taken, compactor_taken, empty_row}
use Rattle.merge.specs.declared.Side.{Side}
use Rattle.merge.specs.declared.Side.TheVariants.{Writer, Compactor}
use Rattle.merge.specs.declared.MergeStep.{MergeStep}
use Rattle.merge.specs.declared.MergeStep.TheVariants.{End, WriterOnly, CompactorOnly, Both}
use Rattle.merge.specs.declared.Only.{Only}
use Rattle.merge.specs.declared.Nest.{Nest}
use Rattle.merge.specs.declared.Nest.TheVariants as nest
use Rattle.records.specs.declared.Refusal.{Refusal}
use Rattle.records.specs.declared.SegmentRow.{SegmentRow}

-- the refusal that is a merge's own
unfoldable pub fault_of : Side → List Segment → List Segment → Option Refusal
fault_of Writer ws cs = pick (refuses6 ws cs) (Some (refusal.CompactorOnly (place6 ws cs))) None
fault_of Compactor ws cs = pick (refuses7 (from_compactor ws cs)) (Some (refusal.KeptNest (place7 (from_compactor ws cs)))) None

-- ---- refusal 6

-- the step has data that is the compactor's only
abbrev pub data_step : List ℕ → List ℕ → MergeStep → Bool
data_step views runs End = false
data_step views runs (WriterOnly w) = false
data_step views runs (CompactorOnly c) = not (empty_row views runs c.tree)
data_step views runs (Both w c) = false

unfoldable pub only_of : List ℕ → List ℕ → List ℕ → List ℕ → Window → Window → ℕ → ℕ → Only
only_of segments views runs pool w c i j =
    record {
      alone = data_step views runs (step_at segments pool w c i j);
      i = i + writer_taken (step_at segments pool w c i j);
      j = j + compactor_taken (step_at segments pool w c i j);
    }

-- the first compactor's segment with data that the writer has not, j coming before them
unfoldable pub first_only : ℕ → List Segment → List Segment → Option ℕ
first_only j ws cs = pick (refuses6 ws cs) (Some (j + place6 ws cs)) None

-- ---- refusal 7

-- the first that begins the next, k coming before them
unfoldable pub first_nest : ℕ → List (List ℕ) → Option ℕ
first_nest k ps = pick (nests ps) (Some (k + nests_at ps)) None

-- what was kept so far, and what more prefixes then give
abbrev pub nest_in : List ℕ → Nest → List (List ℕ) → Option ℕ
nest_in pool nest.Clear ps = first_nest 0 ps
nest_in pool (nest.Last k p) ps = first_nest k (bytes_in pool p ∷ ps)
nest_in pool (nest.At k) ps = Some k

abbrev pub nest_step : List ℕ → Nest → Option SegmentRow → Nest
nest_step pool n None = n
nest_step pool nest.Clear (Some s) = nest.Last 0 s.prefix
nest_step pool (nest.Last k p) (Some s) = pick (begins_of (bytes_in pool p) (bytes_in pool s.prefix)) (nest.At k) (nest.Last (k + 1) s.prefix)
nest_step pool (nest.At k) (Some s) = nest.At k

-- how many were kept before one began the next
abbrev pub nest_count : Nest → ℕ
nest_count nest.Clear = 0
nest_count (nest.Last k p) = k + 1
nest_count (nest.At k) = 0

abbrev pub nest_found : Nest → Option ℕ
nest_found nest.Clear = None
nest_found (nest.Last k p) = None
nest_found (nest.At k) = Some k
