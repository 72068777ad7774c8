-- The same as the code holds it: a range's bounds are places in the pool, and what is arranged is a number.
use Rattle.std.specs.Prelude.{ℕ, ◌+◌, ◌*◌, List, None, Option, Some}
use Rattle.keys.specs.Pool.{edges_of}
use Rattle.tables.specs.Layout.{up_to}
use Rattle.records.specs.Row.{at, bound_at}
use Rattle.unite_ranges.specs.Bounding.{Bounding, none, spans}
use Rattle.unite_ranges.specs.Arranged.{Ranged}
use Rattle.keys.specs.declared.Range.{Range}

abbrev pub bounded_in : List ℕ → Option Range → Bounding
bounded_in pool None = none
bounded_in pool (Some r) = spans (edges_of pool r)

-- a row of seven words: the number, the start, the end
abbrev pub ranged_at : List ℕ → List ℕ → ℕ → Ranged ℕ
ranged_at pool t i =
    record { what = at t (i * 7); range = edges_of pool (record { start = bound_at t (i * 7 + 1); end = bound_at t (i * 7 + 4) }) }

-- the first n rows
unfoldable pub ranged_in : List ℕ → List ℕ → ℕ → List (Ranged ℕ)
ranged_in pool t n = up_to (ranged_at pool t) n
