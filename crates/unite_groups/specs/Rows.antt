-- Groups as the code holds them, each with the checkpoint chosen so far: six words a row, the path's place, the checkpoint, the window of
-- its ids in a working list of ids. No public promise speaks of them.
use Rattle.std.specs.Prelude.{ℕ, suc, ◌+◌, ◌*◌, Bool, true, ◌&&◌, List, [], ◌∷◌, leb, None, Option, Some}
use Rattle.keys.specs.Pick.{pick}
use Rattle.tables.specs.Layout.{up_to}
use Rattle.records.specs.Row.{at, place_at, window_at}
use Rattle.records.specs.Decode.{bytes_in, ids_in}
use Rattle.records.specs.Model.{Borrow}
use Rattle.ids.specs.declared.SstId.{SstId}
use Rattle.ids.specs.declared.Uuid.{Uuid}
use Rattle.borrows.specs.Clone.{final_of}
use Rattle.unite_groups.specs.Sets.{by_order, id_set}
use Rattle.unite_groups.specs.Groups.{Member, key_order}
use Rattle.unite_groups.specs.Chosen.{Supply, supplied_with, same_uuid, lesser}

-- ---- rows

abbrev pub member_at : List ℕ → List ℕ → List ℕ → ℕ → Member
member_at groups work pool i =
    record {
      path = bytes_in pool (place_at groups (i * 6));
      checkpoint = (at groups (i * 6 + 2), at groups (i * 6 + 3));
      ids = ids_in work (window_at groups (i * 6 + 4));
    }

unfoldable pub members_in : List ℕ → List ℕ → List ℕ → ℕ → List Member
members_in groups work pool n = up_to (member_at groups work pool) n

-- the ids of the first n rows end by place `past` of the working list
abbrev pub end_by : ℕ → List ℕ → ℕ → Bool
end_by past groups ℕ.zero = true
end_by past groups (suc n) = end_by past groups n && leb (at groups (n * 6 + 4) + at groups (n * 6 + 5)) past

-- the sources as sorted, four words a row: the path's place, the checkpoint
abbrev pub supply_at : List ℕ → List ℕ → ℕ → Supply
supply_at supplies pool i = record { path = bytes_in pool (place_at supplies (i * 4)); checkpoint = (at supplies (i * 4 + 2), at supplies (i * 4 + 3)) }

unfoldable pub supplies_in : List ℕ → List ℕ → ℕ → List Supply
supplies_in supplies pool n = up_to (supply_at supplies pool) n

-- ---- steps: the checkpoint of a group that one more joins

abbrev pub better : Option Uuid → Uuid → Uuid → Uuid
better None old new = lesser old new
better (Some u) old new = pick (same_uuid u new) u (pick (same_uuid u old) old (lesser old new))

abbrev pub with_better : Option Uuid → Member → Uuid → Member
with_better s g u = record { path = g.path; checkpoint = better s g.checkpoint u; ids = g.ids }

unfoldable pub member_entered : Option Uuid → List ℕ → List SstId → Uuid → List Member → List Member
member_entered s p xs u [] = record { path = p; checkpoint = u; ids = xs } ∷ []
member_entered s p xs u (g ∷ gs) =
    by_order (key_order p xs g.path g.ids) (record { path = p; checkpoint = u; ids = xs } ∷ g ∷ gs) (with_better s g u ∷ gs) (g ∷ member_entered s p xs u gs)

unfoldable pub entered_from : List Supply → List Member → List Member → List Member
entered_from ss gs [] = gs
entered_from ss gs (m ∷ ms) = entered_from ss (member_entered (supplied_with ss m.path) m.path (id_set m.ids) m.checkpoint gs) ms

-- ---- members

-- "each used source's borrows with source checkpoint := final"
abbrev pub borrow_member : Borrow → Member
borrow_member b = record { path = b.path; checkpoint = final_of b.final; ids = b.ids }

abbrev pub borrow_members : List Borrow → List Member
borrow_members [] = []
borrow_members (b ∷ bs) = borrow_member b ∷ borrow_members bs

-- "then its owned ids if any under its own path and checkpoint"
abbrev pub owned_member : List ℕ → Uuid → List SstId → List Member
owned_member p u [] = []
owned_member p u (x ∷ xs) = record { path = p; checkpoint = u; ids = x ∷ xs } ∷ []
