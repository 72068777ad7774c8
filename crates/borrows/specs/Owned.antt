-- Owned ids: the SST ids that a manifest uses and borrows from no one.
use Rattle.std.specs.Prelude.{ℕ, Bool, false, not, ◌||◌, List, [], ◌∷◌}
use Rattle.keys.specs.Pick.{pick}
use Rattle.ids.specs.declared.SstId.{SstId}
use Rattle.ids.specs.Names.{names_of}
use Rattle.records.specs.Model.{View, Borrow, Manifest}
use Rattle.measure.specs.Within.{all_views, ids_used}
use Rattle.segments.specs.Prefixes.{leading}

-- "the search stops at the first list that names it": which borrow that is; the number of all where none does
unfoldable pub first_naming : List Borrow → SstId → ℕ
first_naming bs x = leading (λ b. not (names_of b.ids x)) bs

abbrev pub is_borrowed : List Borrow → SstId → Bool
is_borrowed [] x = false
is_borrowed (b ∷ bs) x = names_of b.ids x || is_borrowed bs x

-- "that no borrow names"
abbrev pub unborrowed : List Borrow → List SstId → List SstId
unborrowed bs [] = []
unborrowed bs (x ∷ xs) = pick (is_borrowed bs x) (unborrowed bs xs) (x ∷ unborrowed bs xs)

abbrev pub owned_by : List Borrow → List View → List SstId
owned_by bs vs = unborrowed bs (ids_used vs)

-- "Owned ids: ids of all views, in record order, repeats kept, that no borrow names"
unfoldable pub owned_of : Manifest → List SstId
owned_of m = owned_by m.borrows (all_views m)
