-- What "sorted stably by the start" promises, for the theorems about `arranged`.
use Rattle.std.specs.Prelude.{ℕ, suc, ◌≡◌, Bool, false, List, [], ◌∷◌}
use Rattle.keys.specs.Pick.{pick}
use Rattle.keys.specs.Key.{is_less, is_equal}
use Rattle.keys.specs.Range.{Edge}
use Rattle.keys.specs.Meet.{start_order}
use Rattle.unite_ranges.specs.Arranged.{Ranged}

-- none of some things starts before s
pub data Behind {A : Type 0} (s : Edge) : List (Ranged A) → Type 0 where
  none : Behind s []
  more : {x : Ranged A} {xs : List (Ranged A)} → is_less (start_order x.range.start s) ≡ false → Behind s xs → Behind s (x ∷ xs)

-- sorted by the start: none starts before one that stands before it
pub data Ascends {A : Type 0} : List (Ranged A) → Type 0 where
  none : Ascends []
  more : {x : Ranged A} {xs : List (Ranged A)} → Behind x.range.start xs → Ascends xs → Ascends (x ∷ xs)

-- stably: those that start at e, in their order
unfoldable pub starting_at : {A : Type 0} → Edge → List (Ranged A) → List (Ranged A)
starting_at e [] = []
starting_at e (x ∷ xs) = pick (is_equal (start_order e x.range.start)) (x ∷ starting_at e xs) (starting_at e xs)

-- how many pass a test
unfoldable pub passing : {A : Type 0} → (A → Bool) → List A → ℕ
passing p [] = 0
passing p (x ∷ xs) = pick (p x) (suc (passing p xs)) (passing p xs)
