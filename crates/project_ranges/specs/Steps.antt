-- The steps that the code takes.
use Rattle.std.specs.Prelude.{ℕ, ◌/◌, Bool, true, false, List, ltb, length, Option, Some, None}
use Rattle.keys.specs.Pick.{pick}
use Rattle.keys.specs.Prefix.{Top, nowhere, at, after}
use Rattle.keys.specs.Range.{Edge, included, Edges}
use Rattle.keys.specs.Meet.{later, earlier, meet_of}
use Rattle.keys.specs.declared.Bound.{Bound}
use Rattle.keys.specs.declared.Bound.TheVariants as bound
use Rattle.keys.specs.declared.Range.{Range}
use Rattle.records.specs.declared.Place.{Place}
use Rattle.segments.specs.Lookup.{same_of}
use Rattle.project_views.specs.Reach.{top_edge}
use Rattle.project_views.specs.declared.Until.{Until}
use Rattle.project_views.specs.declared.Until.TheVariants.{Unbounded, Included, Excluded, Successor}
use Rattle.project_views.specs.declared.Reach.{Reach}
use Rattle.project_ranges.specs.Config.{Asked, asked}
use Rattle.project_ranges.specs.Own.{or_else, same_edge}
use Rattle.project_ranges.specs.Action.{Action, project, unless_empty}
use Rattle.project_ranges.specs.Args.{own_row}
use Rattle.project_ranges.specs.declared.SegmentAction.{SegmentAction}
use Rattle.project_ranges.specs.declared.SegmentAction.TheVariants.{Project, PassThrough}
use Rattle.records.specs.declared.Refusal.{Refusal}

-- ---- "its unbounded ends replaced by those of its prefix", at places of the pool

abbrev pub start_or : Bound → Bound → Bound
start_or bound.Unbounded other = other
start_or (bound.Included from len) other = bound.Included from len
start_or (bound.Excluded from len) other = bound.Excluded from len

abbrev pub end_or : Bound → Until → Until
end_or bound.Unbounded other = other
end_or (bound.Included from len) other = Included from len
end_or (bound.Excluded from len) other = Excluded from len

abbrev pub resolved_row : Place → Range → Reach
resolved_row p r =
    record { start = start_or r.start (bound.Included p.at p.len); end = end_or r.end (Successor p.at p.len) }

-- "missing: unbounded": the row of the tree at a place
abbrev pub own_at : List ℕ → ℕ → Range
own_at own place = pick (ltb place (length own / 6)) (own_row own place) (record { start = bound.Unbounded; end = bound.Unbounded })

-- ---- "meeting it with the prefix's range must leave its bounds unchanged": the start, and an end that is not replaced yet

abbrev pub start_stays : List ℕ → Edge → Bool
start_stays p s = same_edge (later s (included p)) s

abbrev pub end_stays : List ℕ → Edge → Bool
end_stays p e = same_edge (earlier (or_else e (top_edge (after p))) (top_edge (after p))) (or_else e (top_edge (after p)))

-- a key is the one just before which a range of keys ends
abbrev pub is_top : List ℕ → Top → Bool
is_top k nowhere = false
is_top k (at h) = same_of k h

-- ---- "8 and 9: the lowest place"

abbrev pub is_none : Option Refusal → Bool
is_none None = true
is_none (Some fault) = false

-- ---- what becomes of a tree that passes the filter: with its own range, its unbounded ends replaced, and with none

abbrev pub met_with : Edges → Asked → Action
met_with r Asked.unset = project r
met_with r (asked g) = unless_empty (meet_of r g)

abbrev pub sole_row : Option Range → SegmentAction
sole_row None = PassThrough
sole_row (Some r) = Project (record { start = r.start; end = end_or r.end Unbounded })
