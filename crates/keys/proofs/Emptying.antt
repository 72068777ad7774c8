-- Emptiness, by the tests that the code makes of a bound.
use Prim.Native.Nat.{ℕ}
use mathlib.Core.Path.{◌≡◌, refl, sym, ap, ◌∙◌}
use mathlib.Core.Bool.{Bool, true, false, not}
use mathlib.Core.List.{List, [], ◌∷◌, ◌++◌}
use mathlib.Core.Logic.Iff
use mathlib.Core.Logic.{◌↔◌, ⊎_elim}
use native.Mathlib.Omega.{arith}
use lib.ListN.{length}
use lib.Dec.{ltb}
use borrow.Author.Tests.{lt-ltb}
use Rattle.keys.specs.declared.Bound.{Bound}
use Rattle.keys.specs.declared.Bound.TheVariants.{Unbounded, Included, Excluded}
use Rattle.keys.specs.Key.{order_of, is_less, less_of, Below, UpTo}
use Rattle.keys.specs.Range.{low, empty_of}
use Rattle.keys.specs.Pool.{part_of, edge_of}
use Rattle.keys.proofs.Says.{says_same, says_not, true_says}
use Rattle.keys.proofs.ByteOrder.{either, not_both, says_less}
use Rattle.keys.proofs.Ranges.{below_snoc, up_to_snoc}

pub less_nil : (b : List ℕ) → ltb 0 (length b) ≡ less_of [] b
unfolding order_of
less_nil [] = refl
less_nil (x ∷ b) = lt-ltb 0 (length (x ∷ b)) (omega arith)

module _ (pool b : List ℕ) (s : Bound) where
  pub below_free : s ≡ Unbounded → ltb 0 (length b) ≡ is_less (order_of (low (edge_of pool s)) b)
  below_free e = rw e (less_nil b)

  pub below_included : (at len : ℕ) (a : List ℕ) (r : Bool) → s ≡ Included at len → a ≡ part_of pool at len → r ≡ is_less (order_of a b) → r ≡ is_less (order_of (low (edge_of pool s)) b)
  below_included at len a r e q h = rw e (rw q at h)

  pub below_excluded : (at len : ℕ) (a : List ℕ) (r : Bool) → s ≡ Excluded at len → a ≡ part_of pool at len → r ≡ is_less (order_of (a ++ 0 ∷ []) b) → r ≡ is_less (order_of (low (edge_of pool s)) b)
  below_excluded at len a r e q h = rw e (rw q at h)

pub ruleset belows = (below_free, below_included, below_excluded)

up_not : (a b : List ℕ) → (Below b a → ⊥) ↔ Below a (b ++ 0 ∷ [])
up_not a b = (λ n. up_to_snoc.0 (⊎_elim (λ l. absurd (n l)) (λ l. l) (either b a)), λ h l. not_both l (up_to_snoc.1 h))

pub less_by : (a b : List ℕ) → not (less_of b a) ≡ less_of a (b ++ 0 ∷ [])
less_by a b = says_same (up_not a b) (says_not (says_less b a)) (says_less a (b ++ 0 ∷ []))

less_both : (a b : List ℕ) → less_of a b ≡ less_of (a ++ 0 ∷ []) (b ++ 0 ∷ [])
less_both a b = says_same (Iff.trans below_snoc up_to_snoc) (says_less a b) (says_less (a ++ 0 ∷ []) (b ++ 0 ∷ []))

module _ (pool b : List ℕ) (s : Bound) where
  pub by_free : s ≡ Unbounded → true ≡ is_less (order_of (low (edge_of pool s)) (b ++ 0 ∷ []))
  by_free e = rw e (sym (true_says (says_less [] (b ++ 0 ∷ [])) ((up_to_snoc {b = b}).0 UpTo.end)))

  pub by_included : (at len : ℕ) (a : List ℕ) (r : Bool) → s ≡ Included at len → a ≡ part_of pool at len → r ≡ is_less (order_of b a) → not r ≡ is_less (order_of (low (edge_of pool s)) (b ++ 0 ∷ []))
  by_included at len a r e q h = rw e (rw q at (ap not h ∙ less_by a b))

  pub by_excluded : (at len : ℕ) (a : List ℕ) (r : Bool) → s ≡ Excluded at len → a ≡ part_of pool at len → r ≡ is_less (order_of a b) → r ≡ is_less (order_of (low (edge_of pool s)) (b ++ 0 ∷ []))
  by_excluded at len a r e q h = rw e (rw q at (h ∙ less_both a b))

pub ruleset bys = (by_free, by_included, by_excluded)

module _ (ps pe : List ℕ) (s e : Bound) where
  pub empty_free : e ≡ Unbounded → false ≡ empty_of (edge_of ps s) (edge_of pe e)
  unfolding empty_of
  empty_free q = rw q

  pub empty_included : (at len : ℕ) (b : List ℕ) (r : Bool) → e ≡ Included at len → b ≡ part_of pe at len → r ≡ is_less (order_of (low (edge_of ps s)) (b ++ 0 ∷ [])) → not r ≡ empty_of (edge_of ps s) (edge_of pe e)
  unfolding empty_of
  empty_included at len b r q p h = rw q (rw p at (ap not h))

  pub empty_excluded : (at len : ℕ) (b : List ℕ) (r : Bool) → e ≡ Excluded at len → b ≡ part_of pe at len → r ≡ is_less (order_of (low (edge_of ps s)) b) → not r ≡ empty_of (edge_of ps s) (edge_of pe e)
  unfolding empty_of
  empty_excluded at len b r q p h = rw q (rw p at (ap not h))

pub ruleset empties = (empty_free, empty_included, empty_excluded)
