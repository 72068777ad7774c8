-- What a projection is asked for: "optional global range, optional filter, optional table of one range for the unsegmented tree and one
-- per segment".
use Rattle.std.specs.Prelude.{ℕ, zero, suc, ◌-◌, ◌/◌, ◌%◌, ◌^◌, Bool, true, false, ◌&&◌, List, eqb, leb, get_or, None, Option, Some}
use Rattle.std.specs.Int.Count.{ones, count_leading_zeros}
use Rattle.keys.specs.Range.{unbounded, Edges}

pub data Asked : Type 0 where
  unset : Asked
  asked : Edges → Asked

pub data Own : Type 0 where
  unset : Own
  table : List Edges → Own

pub record Config : Type 0 where
  pub global : Asked
  pub filter : Option (Bool × ℕ)
  pub own : Own

abbrev pub free : Edges
free = record { start = unbounded; end = unbounded }

-- "one range for the unsegmented tree and one per segment (missing: unbounded; excess: unread ..)": the unsegmented tree's is the 0th,
-- that of segment i the one at i + 1
abbrev pub own_range : List Edges → ℕ → Edges
own_range rs place = get_or rs place free

-- "None of them set copies the manifest unchanged."
abbrev pub is_noop : Config → Bool
is_noop c = is_unasked c.global && is_all c.filter && is_unowned c.own
  where
    is_unasked : Asked → Bool
    is_unasked unset = true
    is_unasked (asked r) = false

    is_all : Option (Bool × ℕ) → Bool
    is_all None = true
    is_all (Some (flag, mask)) = false

    is_unowned : Own → Bool
    is_unowned unset = true
    is_unowned (table rs) = false

-- "The filter is a flag for the unsegmented tree and a 64-bit mask, bit i for segment i; set keeps"
abbrev pub bit_of : ℕ → ℕ → Bool
bit_of mask i = eqb (mask / 2 ^ i % 2) 1

abbrev pub passes : Option (Bool × ℕ) → ℕ → Bool
passes None place = true
passes (Some (flag, mask)) zero = flag
passes (Some (flag, mask)) (suc i) = bit_of mask i

-- "the answer says how many segments the mask names (0 with no filter)"
abbrev pub names_count : Option (Bool × ℕ) → ℕ
names_count None = 0
names_count (Some (flag, mask)) = ones mask

-- "10 | mask bit set at or above the segment count"
abbrev pub refuses10 : ℕ → Option (Bool × ℕ) → Bool
refuses10 n None = false
refuses10 n (Some (flag, mask)) = leb (2 ^ n) mask

-- "that bit, the highest"
abbrev pub place10 : Option (Bool × ℕ) → ℕ
place10 None = 0
place10 (Some (flag, mask)) = 63 - count_leading_zeros 64 mask
