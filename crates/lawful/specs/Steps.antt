-- The steps that the code takes for the rules, row by row.
use Rattle.std.specs.Prelude.{ℕ, Bool, List, None, Option, Some}
use Rattle.keys.specs.declared.Bound.{Bound}
use Rattle.keys.specs.declared.Bound.TheVariants.{Unbounded, Included}
use Rattle.keys.specs.declared.Range.{Range}
use Rattle.keys.specs.Range.{empty_of}
use Rattle.keys.specs.Pool.{edges_of, meet_in}
use Rattle.records.specs.Row.{segment_at}
use Rattle.records.specs.Decode.{bytes_in}
use Rattle.records.specs.declared.Place.{Place}

-- the prefix of row i of the segments
abbrev pub prefix_at : List ℕ → List ℕ → ℕ → List ℕ
prefix_at segments pool i = bytes_in pool (segment_at segments i).prefix

-- "Physical range: first key included, to last key included or unbounded."
abbrev pub last_bound : Option Place → Bound
last_bound None = Unbounded
last_bound (Some p) = Included p.at p.len

abbrev pub physical_row : Place → Option Place → Range
physical_row first last = record { start = Included first.at first.len; end = last_bound last }

-- every key is visible where no range is given
abbrev pub seen_row : Option Range → Range
seen_row None = record { start = Unbounded; end = Unbounded }
seen_row (Some r) = r

-- the physical range meets the visible one in no key
unfoldable pub hidden_of : List ℕ → Place → Option Place → Option Range → Bool
hidden_of pool first last visible =
    empty_of (edges_of pool (meet_in pool (physical_row first last) (seen_row visible))).start (edges_of pool (meet_in pool (physical_row first last) (seen_row visible))).end
