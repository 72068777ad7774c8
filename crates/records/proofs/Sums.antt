-- Laws of what records fill: `plus` is a sum, and `sum` goes part by part. Assumes nothing.
use Prim.Native.Nat.{ℕ, suc}
use mathlib.Core.Path.{◌≡◌, sym, ap, ◌∙◌}
use mathlib.Core.List.{List, [], ◌∷◌, ◌++◌}
use native.Mathlib.Nat.{add-zero, zero-add, add_assoc, add_comm}
use Rattle.tables.specs.Layout.{up_to}
use Rattle.records.specs.Fill.{empty, plus, sum}
use Rattle.records.specs.declared.Fill.{Fill}

-- equal by each of the six numbers
pub fill_same : {a b : Fill}
    → (a.segments ≡ b.segments) × (a.views ≡ b.views) × (a.runs ≡ b.runs) × (a.borrows ≡ b.borrows) × (a.ids ≡ b.ids) × (a.bytes ≡ b.bytes) → a ≡ b
fill_same h = λ i. record { segments = h.0 i; views = h.1 i; runs = h.2 i; borrows = h.3 i; ids = h.4 i; bytes = h.5 i }

pub plus_assoc : (a b c : Fill) → plus (plus a b) c ≡ plus a (plus b c)
plus_assoc a b c = simp add_assoc

pub plus_comm : (a b : Fill) → plus a b ≡ plus b a
plus_comm a b =
    fill_same
    (add_comm a.segments b.segments, add_comm a.views b.views, add_comm a.runs b.runs, add_comm a.borrows b.borrows, add_comm a.ids b.ids, add_comm a.bytes b.bytes)

pub plus_empty : (a : Fill) → plus a empty ≡ a
plus_empty a = simp add-zero

pub empty_plus : (a : Fill) → plus empty a ≡ a
empty_plus a = simp zero-add

module _ {A : Type 0} (f : A → Fill) where
  pub sum_append : (xs ys : List A) → sum f (xs ++ ys) ≡ plus (sum f xs) (sum f ys)
  sum_append [] ys = sym (empty_plus (sum f ys))
  sum_append (x ∷ xs) ys = rw (sum_append xs ys) (sym (plus_assoc (f x) (sum f xs) (sum f ys)))

  pub sum_more : (xs : List A) (x : A) → sum f (xs ++ (x ∷ [])) ≡ plus (sum f xs) (f x)
  sum_more xs x = sum_append xs (x ∷ []) ∙ ap (λ (y : Fill). plus (sum f xs) y) (plus_empty (f x))

  -- one more row
  pub sum_up_to : (g : ℕ → A) (n : ℕ) → sum f (up_to g (suc n)) ≡ plus (sum f (up_to g n)) (f (g n))
  sum_up_to g n = sum_more (up_to g n) (g n)

  -- all together, from one law for one more
  pub sum_is : (g : List A → Fill) → g [] ≡ empty → ((x : A) (xs : List A) → plus (f x) (g xs) ≡ g (x ∷ xs)) → (xs : List A) → sum f xs ≡ g xs
  sum_is g z s [] = sym z
  sum_is g z s (x ∷ xs) = ap (λ (y : Fill). plus (f x) y) (sum_is g z s xs) ∙ s x xs
