-- Laws of tests that say whether a claim holds.
use mathlib.Core.Path.{◌≡◌, refl}
use mathlib.Core.Bool.{Bool, true, false, ◌&&◌, ◌||◌, not}
use mathlib.Core.Logic.{◌⊎◌, ◌↔◌}
use mathlib.Core.Logic.◌⊎◌.{inl, inr}
use Prim.Native.Nat.{ℕ, ◌<◌, ◌≤◌}
use lib.Dec.{ltb, leb, eqb}
use borrow.Author.Tests.{ltb-true, ltb-false, leb-true, leb-false, eqb-true, eqb-false}
use native.Mathlib.Omega.{arith}
use Rattle.keys.specs.Says.{Says, holds, fails}

pub says_true : {P : Type 0} {b : Bool} → Says P b → b ≡ true → P
says_true (holds p) e = p
says_true (fails n) e = let z : ◌≡◌ {A = ℕ} 0 1 = cc in absurd (omega arith)

pub says_false : {P : Type 0} {b : Bool} → Says P b → b ≡ false → P → ⊥
says_false (holds p) e q = let z : ◌≡◌ {A = ℕ} 0 1 = cc in omega arith
says_false (fails n) e q = n q

pub true_says : {P : Type 0} {b : Bool} → Says P b → P → b ≡ true
true_says (holds p) q = refl
true_says (fails n) q = absurd (n q)

pub false_says : {P : Type 0} {b : Bool} → Says P b → (P → ⊥) → b ≡ false
false_says (holds p) n = absurd (n p)
false_says (fails m) n = refl

pub says_iff : {P Q : Type 0} {b : Bool} → (P ↔ Q) → Says P b → Says Q b
says_iff e (holds p) = holds (e.0 p)
says_iff e (fails n) = fails (λ q. n (e.1 q))

pub says_and : {P Q : Type 0} {b c : Bool} → Says P b → Says Q c → Says (P × Q) (b && c)
says_and (holds p) (holds q) = holds (p, q)
says_and (holds p) (fails n) = fails (λ w. n w.1)
says_and (fails n) q = fails (λ w. n w.0)

pub says_or : {P Q : Type 0} {b c : Bool} → Says P b → Says Q c → Says (P ⊎ Q) (b || c)
says_or (holds p) q = holds (inl p)
says_or (fails n) (holds q) = holds (inr q)
says_or {P} {Q} (fails n) (fails m) = fails go
  where
    go : P ⊎ Q → ⊥
    go (inl p) = n p
    go (inr q) = m q

pub says_not : {P : Type 0} {b : Bool} → Says P b → Says (P → ⊥) (not b)
says_not (holds p) = fails (λ n. n p)
says_not (fails n) = holds n

by_flag : {P : Type 0} (b : Bool) → (b ≡ true → P) → (b ≡ false → P → ⊥) → Says P b
by_flag true h n = holds (h refl)
by_flag false h n = fails (n refl)

pub says_lt : (m n : ℕ) → Says (m < n) (ltb m n)
says_lt m n = by_flag (ltb m n) (ltb-true m n) (λ e h. let l : n ≤ m = ltb-false m n e in omega arith)

pub says_le : (m n : ℕ) → Says (m ≤ n) (leb m n)
says_le m n = by_flag (leb m n) (leb-true m n) (λ e h. let l : n < m = leb-false m n e in omega arith)

pub says_eq : (m n : ℕ) → Says (m ≡ n) (eqb m n)
says_eq m n = by_flag (eqb m n) (eqb-true m n) (eqb-false m n)

pub says_same : {P Q : Type 0} {b c : Bool} → (P ↔ Q) → Says P b → Says Q c → b ≡ c
says_same e (holds p) (holds q) = refl
says_same e (holds p) (fails n) = absurd (n (e.0 p))
says_same e (fails n) (holds q) = absurd (n (e.1 q))
says_same e (fails n) (fails m) = refl

pub says_stable : {P : Type 0} {b : Bool} → Says P b → ((P → ⊥) → ⊥) → P
says_stable (holds p) n = p
says_stable (fails m) n = absurd (n m)
