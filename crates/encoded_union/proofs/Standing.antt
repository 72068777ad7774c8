-- Stand-ins: a list of UUIDs with zeros behind it lends what the list alone does. Assumes nothing.
use Prim.Native.Nat.{ℕ, zero, suc}
use mathlib.Core.Path.{◌≡◌, refl}
use mathlib.Core.List.{List, [], ◌∷◌, ◌++◌}
use Rattle.ids.specs.declared.Uuid.{Uuid}
use Rattle.borrows.specs.Clone.{fresh_at}
use Rattle.unite_groups.specs.Groups.{Member}
use Rattle.unite_groups.specs.Chosen.{lent_from}
use Rattle.unite_sources.specs.Source.{Source}
use Rattle.unite.specs.United.{borrows_united, united_from}

abbrev pub zeros : ℕ → List Uuid
zeros zero = []
zeros (suc k) = (0, 0) ∷ zeros k

zeros_at : (k n : ℕ) → fresh_at (zeros k) n ≡ (0, 0)
zeros_at zero n = refl
zeros_at (suc k) zero = refl
zeros_at (suc k) (suc n) = zeros_at k n

fresh_more : (fresh : List Uuid) (k n : ℕ) → fresh_at (fresh ++ zeros k) n ≡ fresh_at fresh n
fresh_more [] k n = zeros_at k n
fresh_more (u ∷ us) k zero = refl
fresh_more (u ∷ us) k (suc n) = fresh_more us k n

lent_more : (fresh : List Uuid) (k n : ℕ) (ms : List Member) → lent_from (fresh ++ zeros k) n ms ≡ lent_from fresh n ms
unfolding lent_from
lent_more fresh k n [] = refl
lent_more fresh k n (m ∷ ms) = rw (fresh_more fresh k n, lent_more fresh k (suc n) ms)

-- the union is the same
pub united_more : (ss us : List Source) (fresh : List Uuid) (k : ℕ) → united_from ss us (fresh ++ zeros k) ≡ united_from ss us fresh
unfolding united_from borrows_united
united_more ss us fresh k = rw (lent_more fresh k 0 _)
