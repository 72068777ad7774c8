-- Id sets: a lent list of words, and whether it names an id.
use Rattle.std.specs.Prelude.{ℕ, List, [], ◌∷◌, Bool, false, ◌||◌}
use Rattle.ids.specs.declared.SstId.{SstId}
use Rattle.ids.specs.Id.{same_sst_of}

-- The ids of a list of words, "counted tables of plain numbers, lent by the caller": two words an id. An odd last word is no id.
unfoldable pub ids_of : List ℕ → List SstId
ids_of [] = []
ids_of (hi ∷ []) = []
ids_of (hi ∷ lo ∷ ws) = (hi, lo) ∷ ids_of ws

-- "that no borrow names": a list names x if x is one of its ids.
unfoldable pub names_of : List SstId → SstId → Bool
names_of [] x = false
names_of (y ∷ ys) x = same_sst_of y x || names_of ys x
