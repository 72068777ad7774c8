-- Tests of neighbours and of pairs of a list, by index. Assumes nothing.
use Prim.Native.Nat.{ℕ, zero, suc, ◌+◌, ◌-◌, ◌<◌}
use mathlib.Core.Path.{◌≡◌, refl, sym, ap, ◌∙◌}
use mathlib.Core.Bool.{Bool, ◌&&◌}
use mathlib.Core.List.{List, [], ◌∷◌, ◌++◌, append_assoc}
use native.Mathlib.Omega.{arith}
use native.Mathlib.Numerals.{add-one}
use native.Mathlib.Decide.{dec_lt}
use Rattle.keys.specs.Says.{Says, holds}
use Rattle.keys.proofs.Says.{says_iff, says_and}
use Rattle.tables.specs.Layout.{up_to}
use Rattle.measure.proofs.Lists.{and_true, and_assoc, and_swap, all_append, all_up_to}
use Rattle.measure.specs.Tests.{all_of, chain, pairs, all_below}

module _ {A : Type 0} (r : A → A → Bool) where
  chain_snoc : (xs : List A) (y z : A) → chain r (xs ++ y ∷ z ∷ []) ≡ (chain r (xs ++ y ∷ []) && r y z)
  chain_snoc [] y z = and_true (r y z)
  chain_snoc (x ∷ []) y z = rw (and_true (r y z), and_true (r x y))
  chain_snoc (x ∷ w ∷ xs) y z = rw (chain_snoc (w ∷ xs) y z) (sym (and_assoc (r x w) (chain r (w ∷ xs ++ y ∷ [])) (r y z)))

  chain_more : (f : ℕ → A) (n : ℕ) → chain r (up_to f (suc n)) ≡ all_below (λ k. r (f k) (f (k + 1))) n
  chain_more f zero = refl
  chain_more f (suc n) =
      ap (chain r) (append_assoc (up_to f n) (f n ∷ []) (f (suc n) ∷ []))
      ∙ chain_snoc (up_to f n) (f n) (f (suc n))
      ∙ rw (chain_more f n, add-one n)

  pub chain_up_to : (f : ℕ → A) (n : ℕ) → chain r (up_to f n) ≡ all_below (λ k. r (f k) (f (k + 1))) (n - 1)
  chain_up_to f zero = refl
  chain_up_to f (suc n) = let e : suc n - 1 ≡ n = omega arith in rw e (chain_more f n)

  pairs_snoc : (xs : List A) (y : A) → pairs r (xs ++ y ∷ []) ≡ (pairs r xs && all_of (λ x. r x y) xs)
  pairs_snoc [] y = refl
  pairs_snoc (x ∷ xs) y =
      rw (all_append (r x) xs (y ∷ []), pairs_snoc xs y, and_true (r x y)) (and_swap (all_of (r x) xs) (r x y) (pairs r xs) (all_of (λ x. r x y) xs))

  pub pairs_up_to : (f : ℕ → A) (n : ℕ) → pairs r (up_to f n) ≡ all_below (λ j. all_below (λ i. r (f i) (f j)) j) n
  pairs_up_to f zero = refl
  pairs_up_to f (suc n) = pairs_snoc (up_to f n) (f n) ∙ rw (pairs_up_to f n, all_up_to (λ x. r x (f n)) f n)

-- ---- what the test of all below n says
pub says_below : {P : ℕ → Type 0} (p : ℕ → Bool) → ((k : ℕ) → Says (P k) (p k)) → (n : ℕ) → Says ((k : ℕ) → k < n → P k) (all_below p n)
says_below p s zero = holds (λ k h. absurd (omega arith))
says_below {P} p s (suc n) = says_iff (there, back) (says_and (says_below p s n) (s n))
  where
    there : (((k : ℕ) → k < n → P k) × P n) → (k : ℕ) → k < suc n → P k
    there w k h = elim (dec_lt k n) [ yes l ↦ w.0 k l | no l ↦ (let e : k ≡ n = omega arith in rw e w.1) ]

    back : ((k : ℕ) → k < suc n → P k) → ((k : ℕ) → k < n → P k) × P n
    back w = (λ k h. w k (omega arith), w n (omega arith))
