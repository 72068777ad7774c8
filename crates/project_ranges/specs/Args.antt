-- The arguments as they are lent: bounds are places in the manifest's own pool, the own ranges six words a row, three a bound.
use Rattle.std.specs.Prelude.{ℕ, suc, ◌+◌, ◌*◌, ◌/◌, Bool, true, false, ◌||◌, List, ltb, leb, length, None, Option, Some}
use Rattle.keys.specs.Pick.{pick}
use Rattle.keys.specs.Pool.{edges_of}
use Rattle.keys.specs.declared.Range.{Range}
use Rattle.records.specs.Row.{at, bound_at}
use Rattle.tables.specs.Layout.{up_to}
use Rattle.segments.specs.Refuses.{range_over, refuses5}
use Rattle.project_views.specs.Reach.{reach_of}
use Rattle.project_ranges.specs.Config.{Config, Asked, asked, Own, table}
use Rattle.project_ranges.specs.Action.{Action, drop, project, pass}
use Rattle.project_ranges.specs.declared.ProjectionConfig.{ProjectionConfig}
use Rattle.project_ranges.specs.declared.SegmentAction.{SegmentAction}
use Rattle.project_ranges.specs.declared.SegmentAction.TheVariants.{Drop, Project, PassThrough}

-- ---- what the arguments stand for

abbrev pub asked_in : List ℕ → Option Range → Asked
asked_in pool None = Asked.unset
asked_in pool (Some r) = asked (edges_of pool r)

-- a row of the table of own ranges
abbrev pub own_row : List ℕ → ℕ → Range
own_row own i = record { start = bound_at own (i * 6); end = bound_at own (i * 6 + 3) }

abbrev pub own_in : List ℕ → Bool → List ℕ → Own
own_in pool false own = Own.unset
own_in pool true own = table (up_to (λ i. edges_of pool (own_row own i)) (length own / 6))

unfoldable pub config_in : List ℕ → ProjectionConfig → List ℕ → Config
config_in pool c own =
    record { global = asked_in pool c.global_range; filter = c.segment_filter; own = own_in pool c.segment_projection own }

abbrev pub action_in : List ℕ → SegmentAction → Action
action_in pool Drop = drop
action_in pool (Project r) = project (reach_of pool r)
action_in pool PassThrough = pass

-- ---- refusals

-- "2 | .. bound .. over its limit", in a pool of n bytes
abbrev pub global_over : ℕ → ℕ → Option Range → Bool
global_over most n None = false
global_over most n (Some r) = range_over most n r

-- a bound's kind that stands for nothing is over its limit too
abbrev pub own_row_over : ℕ → ℕ → List ℕ → ℕ → Bool
own_row_over most n own i = ltb 2 (at own (i * 6)) || ltb 2 (at own (i * 6 + 3)) || range_over most n (own_row own i)

-- one of the first so many rows
abbrev pub some_over : ℕ → ℕ → List ℕ → ℕ → Bool
some_over most n own ℕ.zero = false
some_over most n own (suc k) = some_over most n own k || own_row_over most n own k

-- "excess: unread; all others count for refusal 2": one row for the unsegmented tree and one for each of so many segments
abbrev pub counted : List ℕ → ℕ → ℕ
counted own segments = pick (leb (length own / 6) segments) (length own / 6) (suc segments)

abbrev pub own_over : ℕ → ℕ → ℕ → Bool → List ℕ → Bool
own_over most n segments false own = false
own_over most n segments true own = some_over most n own (counted own segments)

unfoldable pub config_over : ℕ → ℕ → ℕ → ProjectionConfig → List ℕ → Bool
config_over most n segments c own = global_over most n c.global_range || own_over most n segments c.segment_projection own

-- "5 | a range argument, own ranges apart, is empty"
abbrev pub global_empty : Asked → Bool
global_empty Asked.unset = false
global_empty (asked r) = refuses5 r
