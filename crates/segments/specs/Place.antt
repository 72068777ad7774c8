-- Where a prefix stands among those held, and what it nests with.
use Rattle.std.specs.Prelude.{ℕ, suc, ◌-◌, Bool, not, ◌&&◌, ◌||◌, List, [], ◌∷◌, ltb, length}
use Rattle.keys.specs.Pick.{pick}
use Rattle.keys.specs.Key.{less_of}
use Rattle.keys.specs.Prefix.{begins_of}
use Rattle.measure.specs.Tests.{all_of}
use Rattle.segments.specs.Prefixes.{prefix_of}

-- how many pass
abbrev pub counted : {A : Type 0} → (A → Bool) → List A → ℕ
counted f [] = 0
counted f (x ∷ xs) = pick (f x) (suc (counted f xs)) (counted f xs)

-- "its sorted place": how many of the prefixes are below it
unfoldable pub place_of : List (List ℕ) → List ℕ → ℕ
place_of ps p = counted (λ q. less_of q p) ps

-- the immediate successor extends the candidate
unfoldable pub extended : List (List ℕ) → List ℕ → Bool
extended ps p = ltb (place_of ps p) (length ps) && begins_of p (prefix_of ps (place_of ps p))

-- the predecessor begins the candidate
unfoldable pub begun : List (List ℕ) → List ℕ → Bool
begun ps p = ltb 0 (place_of ps p) && begins_of (prefix_of ps (place_of ps p - 1)) p

-- "3 | insert nests"
abbrev pub refuses3 : List (List ℕ) → List ℕ → Bool
refuses3 ps p = extended ps p || begun ps p

-- "The conflict is the immediate successor if it extends the candidate, else the predecessor."
abbrev pub conflict_of : List (List ℕ) → List ℕ → ℕ
conflict_of ps p = pick (extended ps p) (place_of ps p) (place_of ps p - 1)

-- the same with no neighbour and no place: "none held begins it or is begun by it"
abbrev pub apart_from : List (List ℕ) → List ℕ → Bool
apart_from ps p = all_of (λ q. not (begins_of q p) && not (begins_of p q)) ps
