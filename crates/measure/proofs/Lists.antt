-- Tests and sums over lists, and over the first n numbers. Assumes nothing.
use Prim.Native.Nat.{ℕ, zero, suc}
use mathlib.Core.Path.{◌≡◌, refl, sym, ap, ◌∙◌}
use mathlib.Core.Bool.{Bool, true, false, ◌&&◌}
use mathlib.Core.List.{List, [], ◌∷◌, ◌++◌}
use native.Mathlib.Omega.{arith}
use Rattle.tables.specs.Layout.{up_to, joined}
use Rattle.records.specs.Fill.{empty, plus, sum}
use Rattle.records.specs.declared.Fill.{Fill}
use Rattle.records.proofs.Sums.{fill_same, plus_empty, sum_append}
use Rattle.measure.specs.Tests.{all_of, all_below}

pub and_false : (b : Bool) → (b && false) ≡ false
and_false true = refl
and_false false = refl

pub and_true : (b : Bool) → (b && true) ≡ b
and_true true = refl
and_true false = refl

pub and_assoc : (a b c : Bool) → ((a && b) && c) ≡ (a && (b && c))
and_assoc true b c = refl
and_assoc false b c = refl

pub and_comm : (a b : Bool) → (a && b) ≡ (b && a)
and_comm true b = sym (and_true b)
and_comm false b = sym (and_false b)

pub and_swap : (a b c d : Bool) → ((a && b) && (c && d)) ≡ ((a && c) && (b && d))
and_swap false b c d = refl
and_swap true false c d = sym (and_false c)
and_swap true true c d = refl

pub plus_swap : (a b c d : Fill) → plus (plus a b) (plus c d) ≡ plus (plus a c) (plus b d)
plus_swap a b c d = fill_same (omega arith, omega arith, omega arith, omega arith, omega arith, omega arith)

module _ {A : Type 0} where
  pub all_append : (p : A → Bool) (xs ys : List A) → all_of p (xs ++ ys) ≡ (all_of p xs && all_of p ys)
  all_append p [] ys = refl
  all_append p (x ∷ xs) ys = rw (all_append p xs ys) (sym (and_assoc (p x) (all_of p xs) (all_of p ys)))

  pub all_both : (p q : A → Bool) (xs : List A) → all_of (λ x. p x && q x) xs ≡ (all_of p xs && all_of q xs)
  all_both p q [] = refl
  all_both p q (x ∷ xs) = rw (all_both p q xs) (and_swap (p x) (q x) (all_of p xs) (all_of q xs))

  pub all_up_to : (p : A → Bool) (x : ℕ → A) (n : ℕ) → all_of p (up_to x n) ≡ all_below (λ k. p (x k)) n
  all_up_to p x zero = refl
  all_up_to p x (suc n) = all_append p (up_to x n) (x n ∷ []) ∙ rw (all_up_to p x n, and_true (p (x n)))

pub all_joined : {A B : Type 0} (p : B → Bool) (f : A → List B) (xs : List A) → all_of p (joined f xs) ≡ all_of (λ x. all_of p (f x)) xs
all_joined p f [] = refl
all_joined p f (x ∷ xs) = all_append p (f x) (joined f xs) ∙ rw (all_joined p f xs)

-- what the first n fill
abbrev pub sum_to : (ℕ → Fill) → ℕ → Fill
sum_to g zero = empty
sum_to g (suc n) = plus (sum_to g n) (g n)

-- u n is what n records fill by being there
pub record Unit (u : ℕ → Fill) : Type 0 where
  pub none : u 0 ≡ empty
  pub more : (n : ℕ) → u (suc n) ≡ plus (u n) (u 1)

-- n records, counted at once or one by one
pub sum_up_to : {A : Type 0} (u : ℕ → Fill) (i : Unit u) (g : A → Fill) (x : ℕ → A) (n : ℕ) → plus (u n) (sum_to (λ k. g (x k)) n) ≡ sum (λ y. plus (u 1) (g y)) (up_to x n)
sum_up_to u i g x zero = rw i.none
sum_up_to {A} u i g x (suc n) =
    let f : A → Fill = λ y. plus (u 1) (g y) in
    let t = sum_to (λ k. g (x k)) n in
    ap (λ v. plus v (plus t (g (x n)))) (i.more n)
    ∙ plus_swap (u n) (u 1) t (g (x n))
    ∙ ap (λ v. plus v (f (x n))) (sum_up_to u i g x n)
    ∙ ap (λ v. plus (sum f (up_to x n)) v) (sym (plus_empty (f (x n))))
    ∙ sym (sum_append f (up_to x n) (x n ∷ []))
