-- Tests over lists, and over the first n numbers.
use Rattle.std.specs.Prelude.{ℕ, zero, suc, Bool, true, ◌&&◌, List, [], ◌∷◌}

-- each of xs passes
abbrev pub all_of : {A : Type 0} → (A → Bool) → List A → Bool
all_of p [] = true
all_of p (x ∷ xs) = p x && all_of p xs

-- each stands so to the next
abbrev pub chain : {A : Type 0} → (A → A → Bool) → List A → Bool
chain r [] = true
chain r (x ∷ []) = true
chain r (x ∷ y ∷ xs) = r x y && chain r (y ∷ xs)

-- each stands so to every later one
abbrev pub pairs : {A : Type 0} → (A → A → Bool) → List A → Bool
pairs r [] = true
pairs r (x ∷ xs) = all_of (r x) xs && pairs r xs

-- p holds of each k below n
abbrev pub all_below : (ℕ → Bool) → ℕ → Bool
all_below p zero = true
all_below p (suc n) = all_below p n && p n
