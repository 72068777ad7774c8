-- THE BYTE ORDER: total, transitive, antisymmetric, irreflexive.
use Prim.Native.Nat.{ℕ, ◌≤◌, ◌<◌}
use mathlib.Core.Path.{◌≡◌, refl, ap}
use mathlib.Core.List.{List, [], ◌∷◌}
use mathlib.Core.Bool.{Bool, true, false}
use mathlib.Core.Logic.{◌⊎◌}
use mathlib.Core.Logic.◌⊎◌.{inl, inr}
use native.Mathlib.Omega.{arith}
use native.Mathlib.Nat.{lt_trans}
use lib.Dec.{ltb}
use borrow.Author.Tests.{lt-ltb, le-ltb, ltb-true, ltb-false}
use Rattle.std.specs.declared.cmp.Ordering.{Ordering}
use Rattle.std.specs.declared.cmp.Ordering.TheVariants.{Less, Equal, Greater}
use Rattle.keys.specs.Pick.{pick}
use Rattle.keys.specs.Says.{Says, holds, fails}
use Rattle.keys.specs.Key.{order_of, is_less, less_of, Below, UpTo}

below_apart : {a b : List ℕ} → Below a b → a ≡ b → ⊥
below_apart Below.end e = cc
below_apart (Below.here {x = x} {y = y} h) e = let q : x ≡ y = cc in omega arith
below_apart (Below.next {a = a} {b = b} h) e = below_apart h (cc)

pub below_irrefl : {a : List ℕ} → Below a a → ⊥
below_irrefl h = below_apart h refl

pub below_trans : {a b c : List ℕ} → Below a b → Below b c → Below a c
below_trans Below.end (Below.here h) = Below.end
below_trans Below.end (Below.next h) = Below.end
below_trans (Below.here h) (Below.here k) = Below.here (lt_trans h k)
below_trans (Below.here h) (Below.next k) = Below.here h
below_trans (Below.next h) (Below.here k) = Below.here k
below_trans (Below.next h) (Below.next k) = Below.next (below_trans h k)

pub up_to_refl : (a : List ℕ) → UpTo a a
up_to_refl [] = UpTo.end
up_to_refl (x ∷ a) = UpTo.next (up_to_refl a)

pub up_to_trans : {a b c : List ℕ} → UpTo a b → UpTo b c → UpTo a c
up_to_trans UpTo.end k = UpTo.end
up_to_trans (UpTo.here h) (UpTo.here k) = UpTo.here (lt_trans h k)
up_to_trans (UpTo.here h) (UpTo.next k) = UpTo.here h
up_to_trans (UpTo.next h) (UpTo.here k) = UpTo.here k
up_to_trans (UpTo.next h) (UpTo.next k) = UpTo.next (up_to_trans h k)

antisym_at : {a b c d : List ℕ} → UpTo a b → UpTo c d → c ≡ b → d ≡ a → a ≡ b
antisym_at UpTo.end UpTo.end e f = e
antisym_at UpTo.end (UpTo.here k) e f = cc
antisym_at UpTo.end (UpTo.next k) e f = cc
antisym_at (UpTo.here h) UpTo.end e f = cc
antisym_at (UpTo.here {x = x} {y = y} h) (UpTo.here {x = z} {y = w} k) e f =
    let p : z ≡ y = cc in let q : w ≡ x = cc in absurd (omega arith)
antisym_at (UpTo.here {x = x} {y = y} h) (UpTo.next {x = z} k) e f =
    let p : z ≡ y = cc in let q : z ≡ x = cc in absurd (omega arith)
antisym_at (UpTo.next h) UpTo.end e f = cc
antisym_at (UpTo.next {x = x} h) (UpTo.here {x = z} {y = w} k) e f =
    let p : z ≡ x = cc in let q : w ≡ x = cc in absurd (omega arith)
antisym_at (UpTo.next {x = x} h) (UpTo.next k) e f = ap (λ l. x ∷ l) (antisym_at h k (cc) (cc))

pub up_to_antisym : {a b : List ℕ} → UpTo a b → UpTo b a → a ≡ b
up_to_antisym h k = antisym_at h k refl refl

pub up : {a b : List ℕ} → Below a b → UpTo a b
up Below.end = UpTo.end
up (Below.here h) = UpTo.here h
up (Below.next h) = UpTo.next (up h)

pub below_up_to : {a b c : List ℕ} → Below a b → UpTo b c → Below a c
below_up_to Below.end (UpTo.here h) = Below.end
below_up_to Below.end (UpTo.next h) = Below.end
below_up_to (Below.here h) (UpTo.here k) = Below.here (lt_trans h k)
below_up_to (Below.here h) (UpTo.next k) = Below.here h
below_up_to (Below.next h) (UpTo.here k) = Below.here k
below_up_to (Below.next h) (UpTo.next k) = Below.next (below_up_to h k)

pub up_to_below : {a b c : List ℕ} → UpTo a b → Below b c → Below a c
up_to_below UpTo.end Below.end = Below.end
up_to_below UpTo.end (Below.here h) = Below.end
up_to_below UpTo.end (Below.next h) = Below.end
up_to_below (UpTo.here h) (Below.here k) = Below.here (lt_trans h k)
up_to_below (UpTo.here h) (Below.next k) = Below.here h
up_to_below (UpTo.next h) (Below.here k) = Below.here k
up_to_below (UpTo.next h) (Below.next k) = Below.next (up_to_below h k)

-- the three ways in which two keys stand
pub data Stand (a b : List ℕ) : Ordering → Type 0 where
  less : Below a b → Stand a b Less
  same : a ≡ b → Stand a b Equal
  more : Below b a → Stand a b Greater

pub data StandN (x y : ℕ) : Type 0 where
  less_n : x < y → StandN x y
  same_n : x ≡ y → StandN x y
  more_n : y < x → StandN x y

pub stand_n : (x y : ℕ) → StandN x y
stand_n x y = go (ltb x y) refl (ltb y x) refl
  where
    go : (s : Bool) → ltb x y ≡ s → (t : Bool) → ltb y x ≡ t → StandN x y
    go true e t f = less_n (ltb-true x y e)
    go false e true f = more_n (ltb-true y x f)
    go false e false f = let p : y ≤ x = ltb-false x y e in let q : x ≤ y = ltb-false y x f in same_n (omega arith)

-- where the first bytes are the same, the rest decides
next_stand : {x : ℕ} {a b : List ℕ} {o : Ordering} → Stand a b o → Stand (x ∷ a) (x ∷ b) o
next_stand (less h) = less (Below.next h)
next_stand {x} (same h) = same (ap (λ l. x ∷ l) h)
next_stand (more h) = more (Below.next h)

-- what `order_of` says is so
pub stand : (a b : List ℕ) → Stand a b (order_of a b)
unfolding order_of
stand [] [] = same refl
stand [] (y ∷ b) = less Below.end
stand (x ∷ a) [] = more Below.end
stand (x ∷ a) (y ∷ b) = go (stand_n x y) (stand a b)
  where
    go : StandN x y → Stand a b (order_of a b) → Stand (x ∷ a) (y ∷ b) (pick (ltb x y) Less (pick (ltb y x) Greater (order_of a b)))
    go (less_n h) s = rw (lt-ltb x y h) (less (Below.here h))
    go (more_n h) s = rw (lt-ltb y x h) (rw (le-ltb x y (omega arith)) (more (Below.here h)))
    go (same_n e) s = rw (← e) (rw (le-ltb x x (omega arith)) (next_stand s))

pub stand_order : {a b : List ℕ} {o : Ordering} → Stand a b o → order_of a b ≡ o
stand_order {a} {b} s = go (stand a b) s
  where
    go : {p q : Ordering} → Stand a b p → Stand a b q → p ≡ q
    go (less h) (less k) = refl
    go (less h) (same k) = absurd (below_irrefl (rw k at h))
    go (less h) (more k) = absurd (below_irrefl (below_trans h k))
    go (same h) (less k) = absurd (below_irrefl (rw h at k))
    go (same h) (same k) = refl
    go (same h) (more k) = absurd (below_irrefl (rw h at k))
    go (more h) (less k) = absurd (below_irrefl (below_trans h k))
    go (more h) (same k) = absurd (below_irrefl (rw k at h))
    go (more h) (more k) = refl

-- from the answer to the fact
pub stands : (a b : List ℕ) (o : Ordering) → order_of a b ≡ o → Stand a b o
stands a b o e = rw e at (stand a b)

pub of_less : {a b : List ℕ} → Stand a b Less → Below a b
of_less (less h) = h

pub of_same : {a b : List ℕ} → Stand a b Equal → a ≡ b
of_same (same h) = h

pub of_more : {a b : List ℕ} → Stand a b Greater → Below b a
of_more (more h) = h

-- one of two keys is below, or the other is at most it
pub either : (a b : List ℕ) → Below a b ⊎ UpTo b a
either a b = go (stand a b)
  where
    go : {o : Ordering} → Stand a b o → Below a b ⊎ UpTo b a
    go (less h) = inl h
    go (same h) = inr (rw h (up_to_refl b))
    go (more h) = inr (up h)

pub not_both : {a b : List ℕ} → Below a b → UpTo b a → ⊥
not_both h k = below_irrefl (below_up_to h k)

-- what a pair of non-empty keys says, at any indices
pub below_cons : {x y : ℕ} {a b : List ℕ} → Below (x ∷ a) (y ∷ b) → (x < y) ⊎ ((x ≡ y) × Below a b)
below_cons (Below.here h) = inl h
below_cons (Below.next h) = inr (refl, h)

pub up_to_not : {a b : List ℕ} → UpTo a b → (a ≡ b → ⊥) → Below a b
up_to_not {a} {b} h n = go (stand a b)
  where
    go : {o : Ordering} → Stand a b o → Below a b
    go (less l) = l
    go (same e) = absurd (n e)
    go (more l) = absurd (not_both l h)

pub says_less : (a b : List ℕ) → Says (Below a b) (less_of a b)
says_less a b = go (stand a b)
  where
    go : {o : Ordering} → Stand a b o → Says (Below a b) (is_less o)
    go (less h) = holds h
    go (same h) = fails (λ l. below_irrefl (rw h at l))
    go (more h) = fails (λ l. below_irrefl (below_trans h l))
