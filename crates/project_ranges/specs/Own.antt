-- A tree's own range: its unbounded ends replaced, and when refusals 8 and 9 are given.
use Rattle.records.specs.declared.Refusal.TheVariants.{OwnEmpty, OwnOutside}
use Rattle.std.specs.Prelude.{ℕ, suc, Bool, true, false, ◌&&◌, List, [], ◌∷◌, None, Option, Some}
use Rattle.keys.specs.Pick.{pick}
use Rattle.keys.specs.Prefix.{after}
use Rattle.keys.specs.Range.{Edge, unbounded, included, excluded, Edges}
use Rattle.keys.specs.Meet.{meet_of}
use Rattle.segments.specs.Lookup.{same_of}
use Rattle.project_views.specs.Reach.{top_edge}
use Rattle.project_views.specs.Shown.{holds_none}
use Rattle.project_ranges.specs.Config.{Config, Own, unset, table, own_range, passes}
use Rattle.records.specs.declared.Refusal.{Refusal}

-- the range of a prefix: "included prefix; excluded successor: drop trailing FF bytes and add one to the last byte; unbounded for no byte left"
abbrev pub prefix_range : List ℕ → Edges
prefix_range p = record { start = included p; end = top_edge (after p) }

-- "its unbounded ends replaced by those of its prefix"
abbrev pub or_else : Edge → Edge → Edge
or_else unbounded e = e
or_else (included k) e = included k
or_else (excluded k) e = excluded k

abbrev pub resolved : List ℕ → Edges → Edges
resolved p r = record { start = or_else r.start (prefix_range p).start; end = or_else r.end (prefix_range p).end }

-- two bounds are the same, kind and key
abbrev pub same_edge : Edge → Edge → Bool
same_edge unbounded unbounded = true
same_edge unbounded (included b) = false
same_edge unbounded (excluded b) = false
same_edge (included a) unbounded = false
same_edge (included a) (included b) = same_of a b
same_edge (included a) (excluded b) = false
same_edge (excluded a) unbounded = false
same_edge (excluded a) (included b) = false
same_edge (excluded a) (excluded b) = same_of a b

abbrev pub same_edges : Edges → Edges → Bool
same_edges a b = same_edge a.start b.start && same_edge a.end b.end

-- "meeting it with the prefix's range must leave its bounds unchanged"
abbrev pub is_contained : List ℕ → Edges → Bool
is_contained p r = same_edges (meet_of r (prefix_range p)) r

-- "8 / 9 | own range empty / not contained", of the tree at a place: "0 unsegmented, i+1 segment i"
unfoldable pub range_fault : ℕ → List ℕ → Edges → Option Refusal
range_fault place p r = pick (holds_none (resolved p r)) (Some (OwnEmpty place)) (pick (is_contained p (resolved p r)) None (Some (OwnOutside place)))

abbrev pub own_fault_at : Own → ℕ → List ℕ → Option Refusal
own_fault_at unset place p = None
own_fault_at (table rs) place p = range_fault place p (own_range rs place)

-- "A filtered-out tree is not examined further."
unfoldable pub tree_fault : Config → ℕ → List ℕ → Option Refusal
tree_fault c place p = pick (passes c.filter place) (own_fault_at c.own place p) None

-- "8 and 9: the lowest place."
abbrev pub first_fault : Option Refusal → Option Refusal → Option Refusal
first_fault None later = later
first_fault (Some fault) later = Some fault

-- of trees with these prefixes, at the places from `place` on
unfoldable pub fault_from : Config → ℕ → List (List ℕ) → Option Refusal
fault_from c place [] = None
fault_from c place (p ∷ ps) = first_fault (tree_fault c place p) (fault_from c (suc place) ps)

-- of the unsegmented tree, whose prefix is empty, and the segments
abbrev pub own_fault : Config → List (List ℕ) → Option Refusal
own_fault c ps = fault_from c 0 ([] ∷ ps)
