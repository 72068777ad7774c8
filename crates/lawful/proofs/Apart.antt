-- Prefixes that ascend: it is enough to look at neighbours. Assumes nothing.
use Prim.Native.Nat.{ℕ, zero, suc, ◌+◌, ◌-◌, ◌<◌}
use mathlib.Core.Path.{◌≡◌}
use mathlib.Core.Bool.{Bool, true, not, ◌&&◌}
use mathlib.Core.List.{List}
use mathlib.Core.Logic.{◌↔◌}
use native.Mathlib.Omega.{arith}
use native.Mathlib.Numerals.{add-one}
use Rattle.keys.specs.Says.{Says, holds, fails}
use Rattle.keys.specs.Key.{Below, UpTo, less_of}
use Rattle.keys.specs.Prefix.{Bytes, Begins, begins_of}
use Rattle.keys.proofs.Says.{says_lt, says_not, says_and, says_same, says_true}
use Rattle.keys.proofs.ByteOrder.{up, up_to_refl, below_trans, not_both, says_less}
use Rattle.keys.proofs.Prefixes.{begins_up_to, begins_under, begins_between, up_to_under, says_begins}
use Rattle.measure.specs.Tests.{all_below}
use Rattle.lawful.proofs.Neighbours.{says_below}

-- n prefixes, strictly ascending, none of which begins another
pub record Apart (n : ℕ) (p : ℕ → List ℕ) : Type 0 where
  pub bytes : (i : ℕ) → Bytes (p i)
  pub ascend : (i j : ℕ) → i < j → j < n → Below (p i) (p j)
  pub apart : (i j : ℕ) → i < j → j < n → Begins (p i) (p j) → ⊥

module _ (n : ℕ) (p : ℕ → List ℕ) (bytes : (i : ℕ) → Bytes (p i)) where
  module _ (step : (k : ℕ) → k < n - 1 → Below (p k) (p (k + 1))) where
    pub climb : (i j : ℕ) → i < j → j < n → Below (p i) (p j)
    climb i zero h l = absurd (omega arith)
    climb i (suc j) h l = go (says_lt i j) (λ m. climb i j m (omega arith))
      where
        last : Below (p j) (p (suc j))
        last = rw add-one at (step j (omega arith))

        go : {b : Bool} → Says (i < j) b → (i < j → Below (p i) (p j)) → Below (p i) (p (suc j))
        go (holds m) r = below_trans (r m) last
        go (fails m) r = let e : i ≡ j = omega arith in rw e last

    far : ((k : ℕ) → k < n - 1 → Begins (p k) (p (k + 1)) → ⊥) → (i j : ℕ) → i < j → j < n → Begins (p i) (p j) → ⊥
    far gap i j h l b = gap i (omega arith) ((begins_between (p i) (p (i + 1)) (bytes (i + 1))).1 (up (step i (omega arith)), up_to_under (near (says_lt (i + 1) j)) (begins_under b)))
      where
        near : {b : Bool} → Says (i + 1 < j) b → UpTo (p (i + 1)) (p j)
        near (holds m) = up (climb (i + 1) j m l)
        near (fails m) = let e : i + 1 ≡ j = omega arith in rw e (up_to_refl (p j))

  -- each step, and no prefix begins the next
  Near : Type 0
  Near = ((k : ℕ) → k < n - 1 → Below (p k) (p (k + 1))) × ((k : ℕ) → k < n - 1 → Begins (p k) (p (k + 1)) → ⊥)

  -- each step, and no prefix begins another
  Far : Type 0
  Far = ((k : ℕ) → k < n - 1 → Below (p k) (p (k + 1))) × ((j : ℕ) → j < n → (i : ℕ) → i < j → (Begins (p i) (p j) → ⊥) × (Begins (p j) (p i) → ⊥))

  near_far : Near ↔ Far
  unfolding Near Far
  near_far = (
    λ w. (w.0, λ j l i h. (far w.0 w.1 i j h l, λ b. not_both (climb w.0 i j h l) (begins_up_to b))),
    λ w. (w.0, λ k h. (w.1 (k + 1) (omega arith) k (omega arith)).0),
  )

  says_steps : Says ((k : ℕ) → k < n - 1 → Below (p k) (p (k + 1))) (all_below (λ k. less_of (p k) (p (k + 1))) (n - 1))
  says_steps = says_below (λ k. less_of (p k) (p (k + 1))) (λ k. says_less (p k) (p (k + 1))) (n - 1)

  says_pairs :
      Says ((j : ℕ) → j < n → (i : ℕ) → i < j → (Begins (p i) (p j) → ⊥) × (Begins (p j) (p i) → ⊥))
      (all_below (λ j. all_below (λ i. not (begins_of (p i) (p j)) && not (begins_of (p j) (p i))) j) n)
  says_pairs = says_below _ (λ j. says_below _ (λ i. says_and (says_not (says_begins (p i) (p j))) (says_not (says_begins (p j) (p i)))) j) n

  -- where prefixes ascend, no prefix begins another if none begins the next
  pub near_is_far :
      (all_below (λ k. less_of (p k) (p (k + 1))) (n - 1) && all_below (λ k. not (begins_of (p k) (p (k + 1)))) (n - 1))
      ≡ (all_below (λ k. less_of (p k) (p (k + 1))) (n - 1) && all_below (λ j. all_below (λ i. not (begins_of (p i) (p j)) && not (begins_of (p j) (p i))) j) n)
  unfolding Near Far
  near_is_far =
      says_same near_far
      (says_and says_steps (says_below _ (λ k. says_not (says_begins (p k) (p (k + 1)))) (n - 1)))
      (says_and says_steps says_pairs)

  pub apart_of_lem :
      all_below (λ k. less_of (p k) (p (k + 1))) (n - 1) ≡ true
      → all_below (λ j. all_below (λ i. not (begins_of (p i) (p j)) && not (begins_of (p j) (p i))) j) n ≡ true
      → Apart n p
  apart_of_lem a b =
      record {
        bytes = bytes;
        ascend = climb (says_true says_steps a);
        apart = λ i j h l. (says_true says_pairs b j l i h).0;
      }
