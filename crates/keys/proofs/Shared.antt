-- The length of the common start, and the library's order of slices and test of a prefix. Assumes nothing.
use Prim.Native.Nat.{ℕ, suc, min, ◌+◌, ◌≤◌, ◌<◌}
use mathlib.Core.Path.{◌≡◌, refl, ap, ◌∙◌}
use mathlib.Core.List.{List, [], ◌∷◌}
use mathlib.Core.Bool.{◌&&◌}
use native.Mathlib.Omega.{arith}
use native.Mathlib.Numerals.{add-one}
use native.Mathlib.Decide.{dec_lt}
use lib.Dec.{ltb, eqb}
use lib.ListN.{length, get_or, take, drop, drop_of_length-le}
use lib.Pointwise.{pointwise}
use lib.Seq.{drop-cons}
use borrow.Author.Tests.{lt-ltb, le-ltb, eq-eqb, ne_eqb}
use Rattle.std.proofs.Math.Nat.{min-le_left, min-le_right, le-min}
use Rattle.std.specs.declared.cmp.Ordering.{Ordering}
use Rattle.std.specs.declared.cmp.Ordering.TheVariants.{Less, Equal, Greater}
use Rattle.std.specs.Ordering.{MatchOrdering, nat_cmp, ordering_then}
use Rattle.std.specs.Cmp.{ranks}
use Rattle.std.specs.Cmp.Lexicographic.{slice_cmp}
use Rattle.std.specs.Prelude.{nat_eq}
use Rattle.keys.specs.Pick.{pick}
use Rattle.keys.specs.Key.{order_of, shared_of}
use Rattle.keys.specs.Prefix.{begins_of}

-- ---- the loop: what is common is i bytes, and what is common of the rest
pub record Walked (a b : List ℕ) (i : ℕ) : Type 0 where
  pub in_a : i ≤ length a
  pub in_b : i ≤ length b
  pub rest : i + shared_of (drop i a) (drop i b) ≡ shared_of a b

pub walked_none : (a b : List ℕ) → Walked a b 0
walked_none a b = record { in_a = omega arith; in_b = omega arith; rest = omega arith }

module _ (a b : List ℕ) (i : ℕ) (w : Walked a b i) where
  ends : shared_of (drop i a) (drop i b) ≡ 0 → i ≡ shared_of a b
  ends e = let h : i + shared_of (drop i a) (drop i b) ≡ shared_of a b = w.rest in omega arith

  pub walked_left : length a ≤ i → i ≡ shared_of a b
  unfolding shared_of
  walked_left h = ends (rw (drop_of_length-le a h))

  pub walked_right : i < length a → length b ≤ i → i ≡ shared_of a b
  unfolding shared_of
  walked_right h k = ends (rw (drop-cons a i 0 h, drop_of_length-le b k))

  -- n is the length of the shorter
  module _ (n : ℕ) (m : n ≡ min (length a) (length b)) where
    in_both : i < n → (i < length a) × (i < length b)
    in_both h =
        let p = min-le_left (length a) (length b) in
        let q = min-le_right (length a) (length b) in
        (omega arith, omega arith)

    pub walked_here : i < n → (get_or a i 0 ≡ get_or b i 0 → ⊥) → i ≡ shared_of a b
    unfolding shared_of
    walked_here h e =
        let p = in_both h in
        ends (rw (drop-cons a i 0 p.0, drop-cons b i 0 p.1, ne_eqb _ _ e))

    pub walked_next : i < n → get_or a i 0 ≡ get_or b i 0 → Walked a b (i + 1)
    unfolding shared_of
    walked_next h e =
        let p = in_both h in
        let step : i + suc (shared_of (drop (suc i) a) (drop (suc i) b)) ≡ shared_of a b = rw (drop-cons a i 0 p.0, drop-cons b i 0 p.1, eq-eqb _ _ e) at w.rest in
        record { in_a = omega (arith, p.0); in_b = omega (arith, p.1); rest = rw (add-one i) (omega arith) }

    pub walked_all : n ≤ i → i ≤ n → n ≡ shared_of a b
    walked_all h k =
        let e : n ≡ i = omega arith in
        e ∙ elim (dec_lt i (length a)) [
          | yes p ↦ elim (dec_lt i (length b)) [
            | yes q ↦ (let l : suc i ≤ min (length a) (length b) = le-min (omega arith) (omega arith) in absurd (omega arith))
            | no q ↦ walked_right p (omega arith)
          ]
          | no p ↦ walked_left (omega arith)
        ]

pub ruleset walk = (walked_none, walked_next, walked_all, walked_here)

-- ---- the library's order of slices, and its test of a prefix, are those of the definitions
pub order_is : (a b : List ℕ) → slice_cmp nat_cmp a b ≡ order_of a b
unfolding order_of
order_is [] [] = refl
order_is [] (y ∷ b) = refl
order_is (x ∷ a) [] = refl
order_is (x ∷ a) (y ∷ b) = go (nat_cmp x y) (ranks x y) (order_is a b)
  where
    go : (r : Ordering) → MatchOrdering r (x < y) (x ≡ y) (y < x) → slice_cmp nat_cmp a b ≡ order_of a b
        → ordering_then r (slice_cmp nat_cmp a b) ≡ pick (ltb x y) Less (pick (ltb y x) Greater (order_of a b))
    go Less h e = rw (lt-ltb x y h)
    go Equal h e = rw (le-ltb x y (omega arith), le-ltb y x (omega arith)) e
    go Greater h e = rw (le-ltb x y (omega arith), lt-ltb y x h)

pub begins_is : (p k : List ℕ) → pointwise nat_eq p (take (length p) k) ≡ begins_of p k
unfolding begins_of
begins_is [] k = refl
begins_is (x ∷ p) [] = refl
begins_is (x ∷ p) (y ∷ k) = ap (λ r. eqb x y && r) (begins_is p k)
