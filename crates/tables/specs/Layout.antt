-- What stands in a lent table, and what is left as it was lent.
use Rattle.std.specs.Prelude.{ℕ, zero, suc, ◌+◌, List, [], ◌∷◌, ◌++◌, length, take, drop}

-- d with xs stored from index `from`; the rest as it was
abbrev pub write : {A : Type 0} → List A → ℕ → List A → List A
write d from xs = take from d ++ (xs ++ drop (from + length xs) d)

-- xs at the front of d; the rest as it was lent
abbrev pub over : List ℕ → List ℕ → List ℕ
over d xs = xs ++ drop (length xs) d

-- f 0, .., f (n - 1)
abbrev pub up_to : {A : Type 0} → (ℕ → A) → ℕ → List A
up_to f zero = []
up_to f (suc n) = up_to f n ++ (f n ∷ [])

-- what each of xs gives, one after the other
abbrev pub joined : {A B : Type 0} → (A → List B) → List A → List B
joined f [] = []
joined f (x ∷ xs) = f x ++ joined f xs
