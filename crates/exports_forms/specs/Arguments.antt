-- What the numbers that go in stand for.
use Rattle.std.specs.Prelude.{ℕ, Bool, not, ◌&&◌, ◌||◌, List, ltb, eqb, None, Option, Some}
use Rattle.keys.specs.Pick.{pick}
use Rattle.keys.specs.declared.Range.{Range}
use Rattle.ids.specs.declared.Uuid.{Uuid}
use Rattle.records.specs.Row.{at, bound_at}
use Rattle.records.specs.declared.Fill.{Fill}
use Rattle.project_ranges.specs.declared.ProjectionConfig.{ProjectionConfig}

-- the six numbers of a room
abbrev pub room_fill : List ℕ → Fill
room_fill r = record { segments = at r 0; views = at r 1; runs = at r 2; borrows = at r 3; ids = at r 4; bytes = at r 5 }

-- three numbers for each bound: its kind, 0 unbounded, 1 included, 2 excluded, and where its key stands
abbrev pub range_arg : List ℕ → Range
range_arg r = record { start = bound_at r 0; end = bound_at r 3 }

-- a kind that stands for nothing
abbrev pub odd_of : List ℕ → Bool
odd_of r = ltb 2 (at r 0) || ltb 2 (at r 3)

-- a flag: 0 is off, any other number on
abbrev pub is_on : ℕ → Bool
is_on x = not (eqb x 0)

abbrev pub global_arg : ℕ → List ℕ → Option Range
global_arg flag r = pick (is_on flag) (Some (range_arg r)) None

-- "The filter is a flag for the unsegmented tree and a 64-bit mask"
abbrev pub filter_arg : ℕ → ℕ → ℕ → Option (Bool × ℕ)
filter_arg flag keeps mask = pick (is_on flag) (Some (is_on keeps, mask)) None

-- five numbers: whether there is a global range, whether there is a filter, its flag and its mask, whether there is a table of own ranges
abbrev pub config_arg : List ℕ → List ℕ → ProjectionConfig
config_arg f r = record { global_range = global_arg (at f 0) r; segment_filter = filter_arg (at f 1) (at f 2) (at f 3); segment_projection = is_on (at f 4) }

-- "2 | .. bound .. over its limit": of the global range too
abbrev pub odd_global : List ℕ → List ℕ → Bool
odd_global f r = is_on (at f 0) && odd_of r

-- an id's two words, the high one first
abbrev pub uuid_arg : List ℕ → Uuid
uuid_arg c = (at c 0, at c 1)
