-- Prefixes that ascend. Assumes nothing.
use Prim.Native.Nat.{ℕ}
use mathlib.Core.Path.{◌≡◌, refl}
use mathlib.Core.Bool.{true, false}
use mathlib.Core.List.{List, [], ◌∷◌}
use Rattle.keys.specs.Key.{Below, less_of}
use Rattle.keys.proofs.Says.{says_true, true_says, false_says}
use Rattle.keys.proofs.ByteOrder.{Stand, stand_order, below_trans, below_irrefl, says_less}
use Rattle.measure.specs.Tests.{chain}
use Rattle.segments.specs.Lookup.{same_of}
use Rattle.segments.proofs.Places.{and_both}

-- p is below each
pub data Above (p : List ℕ) : List (List ℕ) → Type 0 where
  none : Above p []
  more : {q : List ℕ} {qs : List (List ℕ)} → Below p q → Above p qs → Above p (q ∷ qs)

-- each is below every later one
pub data Ascending : List (List ℕ) → Type 0 where
  none : Ascending []
  more : {p : List ℕ} {ps : List (List ℕ)} → Above p ps → Ascending ps → Ascending (p ∷ ps)

pub above_on : {a b : List ℕ} {ps : List (List ℕ)} → Below a b → Above b ps → Above a ps
above_on h Above.none = Above.none
above_on h (Above.more k a) = Above.more (below_trans h k) (above_on h a)

pub ascending_of : (ps : List (List ℕ)) → chain less_of ps ≡ true → Ascending ps
ascending_of [] e = Ascending.none
ascending_of (p ∷ []) e = Ascending.more Above.none Ascending.none
ascending_of (p ∷ q ∷ ps) e =
    let w = and_both (less_of p q) (chain less_of (q ∷ ps)) e in
    go (says_true (says_less p q) w.0) (ascending_of (q ∷ ps) w.1)
  where
    go : Below p q → Ascending (q ∷ ps) → Ascending (p ∷ q ∷ ps)
    go h (Ascending.more a s) = Ascending.more (Above.more h (above_on h a)) (Ascending.more a s)

pub ascending_chain : (ps : List (List ℕ)) → Ascending ps → chain less_of ps ≡ true
ascending_chain [] s = refl
ascending_chain (p ∷ []) s = refl
ascending_chain (p ∷ q ∷ ps) (Ascending.more (Above.more h a) s) = rw (true_says (says_less p q) h, ascending_chain (q ∷ ps) s)

-- ---- how a prefix stands to one above it, and to itself
module _ {a b : List ℕ} (h : Below a b) where
  pub above_other : same_of a b ≡ false
  above_other = rw (stand_order (Stand.less h))

  pub below_other : same_of b a ≡ false
  below_other = rw (stand_order (Stand.more h))

  pub not_less : less_of b a ≡ false
  not_less = rw (stand_order (Stand.more h))

pub itself : (a : List ℕ) → same_of a a ≡ true
itself a = let e : a ≡ a = refl in rw (stand_order (Stand.same e))

pub not_itself : (a : List ℕ) → less_of a a ≡ false
not_itself a = false_says (says_less a a) below_irrefl
