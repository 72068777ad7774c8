-- NO SOURCE: the union is the new manifest. Assumes nothing.
use mathlib.Core.Path.{◌≡◌, refl}
use mathlib.Core.List.{List, []}
use Rattle.ids.specs.declared.Uuid.{Uuid}
use Rattle.records.specs.New.{new_manifest}
use Rattle.unite_ranges.specs.Arranged.{arranged_from, whats}
use Rattle.unite_trees.specs.Joined.{joined_tree, numbered, numbered_tree, numbered_segments}
use Rattle.unite_groups.specs.Groups.{grouped_from}
use Rattle.unite_groups.specs.Chosen.{chosen_all, lent_from}
use Rattle.unite_sources.specs.Source.{greatest_from}
use Rattle.unite_sources.specs.Used.{ranged_by, in_order, own_trees}
use Rattle.unite.specs.United.{members_of, supplies_of, borrows_united, united_from, united_of}

pub union_of_none : (fresh : List Uuid) → united_of [] fresh ≡ new_manifest
unfolding united_of united_from in_order ranged_by arranged_from whats own_trees joined_tree numbered numbered_tree numbered_segments greatest_from members_of supplies_of borrows_united grouped_from chosen_all lent_from
union_of_none fresh = refl
