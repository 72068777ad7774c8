-- Which SST ids some borrows name, and what a source names.
use Rattle.std.specs.Prelude.{ℕ, ◌^◌, Bool, ◌&&◌, ◌||◌, List, ltb}
use Rattle.keys.specs.Key.{is_equal}
use Rattle.ids.specs.declared.SstId.{SstId}
use Rattle.ids.specs.Names.{names_of}
use Rattle.records.specs.Model.{View, Borrow}
use Rattle.measure.specs.Tests.{all_of}
use Rattle.measure.specs.Within.{all_views, ids_used}
use Rattle.merge.specs.Merge.{some_of}
use Rattle.borrows.specs.Owned.{is_borrowed, owned_of}
use Rattle.unite_groups.specs.Sets.{id_set}
use Rattle.unite_groups.specs.Groups.{Member, key_order}
use Rattle.unite_sources.specs.Source.{Source}

-- some borrow, of a path that passes a test, names x
unfoldable pub named_under : (List ℕ → Bool) → List Borrow → SstId → Bool
named_under test bs x = some_of (λ b. test b.path && names_of b.ids x) bs

-- "each used source's borrows .., then its owned ids if any under its own path": what a source names, under which paths
unfoldable pub source_names : (List ℕ → Bool) → SstId → Source → Bool
source_names test x s = named_under test s.manifest.borrows x || (test s.path && names_of (owned_of s.manifest) x)

-- a borrow of the source names x, or a view of it, in a segment or not, uses x
unfoldable pub source_uses : SstId → Source → Bool
source_uses x s = is_borrowed s.manifest.borrows x || names_of (ids_used (all_views s.manifest)) x

-- some borrow names the SST that a view uses
abbrev pub view_lent : List Borrow → View → Bool
view_lent bs v = is_borrowed bs v.sst

-- "grouped by path and id set": a path and some ids that are those of a member's group
abbrev pub is_of : Member → List ℕ → List SstId → Bool
is_of m p xs = is_equal (key_order p xs m.path (id_set m.ids))

-- an id as words hold it: two halves of 64 bits
abbrev pub whole_id : SstId → Bool
whole_id x = ltb x.0 (2 ^ 64) && ltb x.1 (2 ^ 64)

-- every id of a source is such a one
unfoldable pub whole_source : Source → Bool
whole_source s = all_of (λ b. all_of whole_id b.ids) s.manifest.borrows && all_of whole_id (ids_used (all_views s.manifest))
