-- Borrows "grouped by path and id set, ids ascending, once each, ordered by path bytes then id list".
use Rattle.std.specs.Prelude.{ℕ, List, [], ◌∷◌, ◌++◌}
use Rattle.keys.specs.Key.{order_of}
use Rattle.keys.specs.Meet.{or_else}
use Rattle.std.specs.declared.cmp.Ordering.{Ordering}
use Rattle.std.specs.declared.cmp.Ordering.TheVariants.{Less, Equal, Greater}
use Rattle.ids.specs.declared.SstId.{SstId}
use Rattle.ids.specs.declared.Uuid.{Uuid}
use Rattle.unite_groups.specs.Sets.{sst_order, by_order, id_set}

-- a borrow before it is grouped: its path, its source checkpoint, its ids as they come
pub record Member : Type 0 where
  pub path : List ℕ
  pub checkpoint : Uuid
  pub ids : List SstId

-- a group: the path and the id set of its members, and their checkpoints in the order in which they came
pub record Group : Type 0 where
  pub path : List ℕ
  pub ids : List SstId
  pub checkpoints : List Uuid

-- id lists "compare element by element"
unfoldable pub list_order : List SstId → List SstId → Ordering
list_order [] [] = Equal
list_order [] (y ∷ ys) = Less
list_order (x ∷ xs) [] = Greater
list_order (x ∷ xs) (y ∷ ys) = or_else (sst_order x y) (list_order xs ys)

-- "ordered by path bytes then id list"
abbrev pub key_order : List ℕ → List SstId → List ℕ → List SstId → Ordering
key_order p xs q ys = or_else (order_of p q) (list_order xs ys)

abbrev pub alone : List ℕ → List SstId → Uuid → Group
alone p xs u = record { path = p; ids = xs; checkpoints = u ∷ [] }

abbrev pub joined_by : Group → Uuid → Group
joined_by g u = record { path = g.path; ids = g.ids; checkpoints = g.checkpoints ++ (u ∷ []) }

-- one more among the groups: with those of its path and id set, or a group of its own at its place
unfoldable pub group_entered : List ℕ → List SstId → Uuid → List Group → List Group
group_entered p xs u [] = alone p xs u ∷ []
group_entered p xs u (g ∷ gs) =
    by_order (key_order p xs g.path g.ids) (alone p xs u ∷ g ∷ gs) (joined_by g u ∷ gs) (g ∷ group_entered p xs u gs)

unfoldable pub grouped_from : List Group → List Member → List Group
grouped_from gs [] = gs
grouped_from gs (m ∷ ms) = grouped_from (group_entered m.path (id_set m.ids) m.checkpoint gs) ms

abbrev pub grouped : List Member → List Group
grouped ms = grouped_from [] ms
