-- Projection's last step, for the borrows.
use Rattle.std.specs.Prelude.{List, [], ◌∷◌, ◌++◌}
use Rattle.keys.specs.Pick.{pick}
use Rattle.ids.specs.declared.SstId.{SstId}
use Rattle.ids.specs.Names.{names_of}
use Rattle.records.specs.Model.{Borrow}

-- "borrowed ids not used by any view go"
abbrev pub used_only : List SstId → List SstId → List SstId
used_only used [] = []
used_only used (x ∷ xs) = pick (names_of used x) (x ∷ used_only used xs) (used_only used xs)

-- "then borrows with no ids"
abbrev pub kept_borrow : Borrow → List SstId → List Borrow
kept_borrow b [] = []
kept_borrow b (x ∷ xs) = record { path = b.path; source = b.source; final = b.final; ids = x ∷ xs } ∷ []

-- "Then borrowed ids not used by any view go, then borrows with no ids."
unfoldable pub pruned : List SstId → List Borrow → List Borrow
pruned used [] = []
pruned used (b ∷ bs) = kept_borrow b (used_only used b.ids) ++ pruned used bs
