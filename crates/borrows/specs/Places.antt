-- The walk that the code makes: ids put one after the other into a lent list, as far as it has places. Over a list with no place
-- the same walk only counts. No public promise speaks of it: where all have a place, it lays them as `ids_laid` says.
use Rattle.std.specs.Prelude.{ℕ, ◌+◌, ◌*◌, ◌/◌, List, [], ◌∷◌, ltb, length}
use Rattle.keys.specs.Pick.{pick}
use Rattle.tables.specs.Layout.{write}
use Rattle.ids.specs.declared.SstId.{SstId}
use Rattle.records.specs.Words.{id_words}

-- x at place n, if there is one
abbrev pub put_at : List ℕ → ℕ → SstId → List ℕ
put_at d n x = pick (ltb n (length d / 2)) (write d (n * 2) (id_words x)) d

-- ids at the places from n on
unfoldable pub put_from : List ℕ → ℕ → List SstId → List ℕ
put_from d n [] = d
put_from d n (x ∷ xs) = put_from (put_at d n x) (n + 1) xs
