-- What becomes of each tree (`resolve_segment_action`).
use Rattle.std.specs.Prelude.{ℕ, List}
use Rattle.keys.specs.Pick.{pick}
use Rattle.keys.specs.Range.{Edges}
use Rattle.keys.specs.Meet.{meet_of}
use Rattle.project_views.specs.Shown.{holds_none}
use Rattle.project_ranges.specs.Config.{Config, Asked, asked, Own, table, own_range, passes}
use Rattle.project_ranges.specs.Own.{resolved}

pub data Action : Type 0 where
  drop : Action
  project : Edges → Action
  pass : Action

-- "It is then met with the global range; empty means drop."
abbrev pub unless_empty : Edges → Action
unless_empty r = pick (holds_none r) drop (project r)

-- an own range with its unbounded ends replaced, and the global range; "Global range only, no own table: each tree is projected to the
-- global range alone"
abbrev pub combined : Own → Asked → ℕ → List ℕ → Action
combined Own.unset Asked.unset place p = pass
combined Own.unset (asked g) place p = project g
combined (table rs) Asked.unset place p = project (resolved p (own_range rs place))
combined (table rs) (asked g) place p = unless_empty (meet_of (resolved p (own_range rs place)) g)

-- the tree at a place, with its prefix: "A filtered-out tree is not examined further"
unfoldable pub action_of : Config → ℕ → List ℕ → Action
action_of c place p = pick (passes c.filter place) (combined c.own c.global place p) drop
