-- Laws of `up_to` and `joined`: one more row is one more part. Assumes nothing.
use mathlib.Core.Path.{◌≡◌, refl, sym}
use mathlib.Core.List.{List, [], ◌∷◌, ◌++◌, append_assoc, append-nil}
use Prim.Native.Nat.{ℕ, zero, suc, ◌*◌, ◌≤◌}
use native.Mathlib.Omega.{arith}
use native.Mathlib.Nat.{suc-mul}
use native.Mathlib.Decide.{dec_lt}
use lib.ListN.{length, length-append}
use Rattle.tables.specs.Layout.{up_to, joined}

pub up_to_length : {A : Type 0} (f : ℕ → A) (n : ℕ) → length (up_to f n) ≡ n
up_to_length f zero = refl
up_to_length f (suc n) = rw (length-append, up_to_length f n) (omega arith)

-- the first i are the first part of the first n
pub up_to_more : {A : Type 0} (f : ℕ → A) (i n : ℕ) → i ≤ n → (ys : List A) × (up_to f n ≡ up_to f i ++ ys)
up_to_more f i zero h = let e : i ≡ 0 = omega arith in rw e ([], refl)
up_to_more f i (suc n) h = elim (dec_lt n i) [ yes l ↦ (let e : i ≡ suc n = omega arith in rw e ([], sym (append-nil (up_to f (suc n))))) | no l ↦ (let r = up_to_more f i n (omega arith) in (r.0 ++ (f n ∷ []), rw r.1 (append_assoc (up_to f i) r.0 (f n ∷ [])))) ]

module _ {A B : Type 0} (f : A → List B) where
  pub joined_append : (xs ys : List A) → joined f (xs ++ ys) ≡ joined f xs ++ joined f ys
  joined_append [] ys = refl
  joined_append (x ∷ xs) ys = rw (joined_append xs ys) (sym (append_assoc (f x) (joined f xs) (joined f ys)))

  pub joined_one : (x : A) → joined f (x ∷ []) ≡ f x
  joined_one x = append-nil (f x)

  -- rows of one width
  pub joined_length : (w : ℕ) → ((x : A) → length (f x) ≡ w) → (xs : List A) → length (joined f xs) ≡ length xs * w
  joined_length w h [] = omega arith
  joined_length w h (x ∷ xs) = rw (length-append, h x, joined_length w h xs, suc-mul) (omega arith)
