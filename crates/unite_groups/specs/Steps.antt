-- Steps of the code: a place among some that ascend, and the rows of the groups. No public promise speaks of them.
use Rattle.std.specs.Prelude.{ℕ, suc, ◌+◌, ◌*◌, true, false, List, [], ◌∷◌, None, Option, Some}
use Rattle.keys.specs.Pick.{pick}
use Rattle.std.specs.declared.cmp.Ordering.{Ordering}
use Rattle.ids.specs.declared.Uuid.{Uuid}
use Rattle.segments.specs.Lookup.{same_of as same_bytes}
use Rattle.records.specs.Row.{at, place_at, window_at}
use Rattle.records.specs.Model.{Borrow}
use Rattle.borrows.specs.Clone.{fresh_at}
use Rattle.records.specs.Decode.{bytes_in, ids_in}
use Rattle.unite_groups.specs.Sets.{by_order, id_set}
use Rattle.unite_groups.specs.Groups.{Member, key_order}
use Rattle.unite_groups.specs.Chosen.{Supply, or_before, supplied_with}
use Rattle.unite_groups.specs.Rows.{better, member_entered}
use Rattle.unite_groups.specs.declared.Spot.{Spot}
use Rattle.unite_groups.specs.declared.GroupRow.{GroupRow}

-- one more before it
abbrev pub further : Spot → Spot
further s = record { at = suc s.at; held = s.held }

-- how many come before the place, and whether it is held; `o` says how the one to be entered stands to each
unfoldable pub spot_of : {A : Type 0} → (A → Ordering) → List A → Spot
spot_of o [] = record { at = 0; held = false }
spot_of o (y ∷ ys) = by_order (o y) (record { at = 0; held = false }) (record { at = 0; held = true }) (further (spot_of o ys))

-- x at its place, or the one that holds it changed
unfoldable pub entered : {A : Type 0} → (A → Ordering) → A → (A → A) → List A → List A
entered o x same [] = x ∷ []
entered o x same (y ∷ ys) = by_order (o y) (x ∷ y ∷ ys) (same y ∷ ys) (y ∷ entered o x same ys)

-- a group: 0 path, 2 checkpoint, 4 ids
unfoldable pub group_at : List ℕ → ℕ → GroupRow
group_at t i = record { path = place_at t (i * 6); checkpoint = (at t (i * 6 + 2), at t (i * 6 + 3)); ids = window_at t (i * 6 + 4) }

unfoldable pub group_words : GroupRow → List ℕ
group_words g = g.path.at ∷ g.path.len ∷ g.checkpoint.0 ∷ g.checkpoint.1 ∷ g.ids.first ∷ g.ids.count ∷ []

-- what a row says of the tables that it points into
abbrev pub member_of : List ℕ → List ℕ → GroupRow → Member
member_of work pool g = record { path = bytes_in pool g.path; checkpoint = g.checkpoint; ids = ids_in work g.ids }

-- how two rows stand: "by path bytes then id list"
abbrev pub row_order : List ℕ → List ℕ → GroupRow → GroupRow → Ordering
row_order work pool g h = key_order (bytes_in pool g.path) (ids_in work g.ids) (bytes_in pool h.path) (ids_in work h.ids)

-- a row whose group one more joins
abbrev pub better_row : Option Uuid → Uuid → GroupRow → GroupRow
better_row s u g = record { path = g.path; checkpoint = better s g.checkpoint u; ids = g.ids }

-- one more source: "that path's last source as sorted"
abbrev pub supplied_next : Supply → List ℕ → Option Uuid → Option Uuid
supplied_next x p before = or_before (pick (same_bytes x.path p) (Some x.checkpoint) None) before

-- one more member among the groups, with the checkpoint supplied with its path
abbrev pub member_joined : List Supply → List Member → Member → List Member
member_joined ss gs m = member_entered (supplied_with ss m.path) m.path (id_set m.ids) m.checkpoint gs

-- a group as a borrow, with the n-th fresh UUID
abbrev pub lent_as : List Uuid → ℕ → Member → Borrow
lent_as fresh n m = record { path = m.path; source = m.checkpoint; final = Some (fresh_at fresh n); ids = m.ids }
