-- "A key is any byte string." Keys are ordered as bytes.
use Rattle.std.specs.Prelude.{ℕ, suc, ◌<◌, List, [], ◌∷◌, Bool, true, false, ltb, eqb}
use Rattle.std.specs.declared.cmp.Ordering.{Ordering}
use Rattle.std.specs.declared.cmp.Ordering.TheVariants.{Less, Equal, Greater}
use Rattle.std.specs.Ordering.{is_lt}
use Rattle.keys.specs.Pick.{pick}

-- The first byte that differs decides. Of two keys one of which begins the other, the shorter is less.
unfoldable pub order_of : List ℕ → List ℕ → Ordering
order_of [] [] = Equal
order_of [] (y ∷ b) = Less
order_of (x ∷ a) [] = Greater
order_of (x ∷ a) (y ∷ b) = pick (ltb x y) Less (pick (ltb y x) Greater (order_of a b))

abbrev pub is_less : Ordering → Bool
is_less = is_lt

abbrev pub is_equal : Ordering → Bool
is_equal Less = false
is_equal Equal = true
is_equal Greater = false

-- whether a is below b
abbrev pub less_of : List ℕ → List ℕ → Bool
less_of a b = is_less (order_of a b)

-- How many bytes at the front of two keys are the same.
unfoldable pub shared_of : List ℕ → List ℕ → ℕ
shared_of [] b = 0
shared_of (x ∷ a) [] = 0
shared_of (x ∷ a) (y ∷ b) = pick (eqb x y) (suc (shared_of a b)) 0

-- The same order as a relation. Strictly below:
pub data Below : List ℕ → List ℕ → Type 0 where
  end : {y : ℕ} {b : List ℕ} → Below [] (y ∷ b)
  here : {x y : ℕ} {a b : List ℕ} → x < y → Below (x ∷ a) (y ∷ b)
  next : {x : ℕ} {a b : List ℕ} → Below a b → Below (x ∷ a) (x ∷ b)

-- below, or the same
pub data UpTo : List ℕ → List ℕ → Type 0 where
  end : {b : List ℕ} → UpTo [] b
  here : {x y : ℕ} {a b : List ℕ} → x < y → UpTo (x ∷ a) (y ∷ b)
  next : {x : ℕ} {a b : List ℕ} → UpTo a b → UpTo (x ∷ a) (x ∷ b)
