-- Id sets: "ids ascending, once each".
use Rattle.std.specs.Prelude.{List, [], ◌∷◌}
use Rattle.keys.specs.Key.{order_of}
use Rattle.std.specs.declared.cmp.Ordering.{Ordering}
use Rattle.std.specs.declared.cmp.Ordering.TheVariants.{Less, Equal, Greater}
use Rattle.ids.specs.declared.SstId.{SstId}
use Rattle.ids.specs.Id.{sst_bytes}

-- "ULIDs and UUIDs compare as 16 bytes."
abbrev pub sst_order : SstId → SstId → Ordering
sst_order a b = order_of (sst_bytes a) (sst_bytes b)

-- one of three, by an order
abbrev pub by_order : {A : Type 0} → Ordering → A → A → A → A
by_order Less x y z = x
by_order Equal x y z = y
by_order Greater x y z = z

-- an id among ascending ones, at its place; one that is there already is not entered again
unfoldable pub id_entered : SstId → List SstId → List SstId
id_entered x [] = x ∷ []
id_entered x (y ∷ ys) = by_order (sst_order x y) (x ∷ y ∷ ys) (y ∷ ys) (y ∷ id_entered x ys)

unfoldable pub id_set_from : List SstId → List SstId → List SstId
id_set_from set [] = set
id_set_from set (x ∷ xs) = id_set_from (id_entered x set) xs

abbrev pub id_set : List SstId → List SstId
id_set xs = id_set_from [] xs
