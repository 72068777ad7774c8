-- How two keys part: they agree before the length of their common start and part at it, and what is left of them from there on decides.
use Prim.Native.Nat.{ℕ, zero, suc, ◌≤◌, ◌<◌}
use mathlib.Core.Path.{◌≡◌, refl, ◌∙◌}
use mathlib.Core.List.{List, [], ◌∷◌}
use mathlib.Core.Bool.{Bool, true, false}
use native.Mathlib.Omega.{arith}
use lib.Dec.{eqb, eqb-suc-suc}
use lib.ListN.{length, get_or, drop, drop_of_length-le}
use lib.Seq.{drop-cons}
use borrow.Author.Tests.{lt-ltb, le-ltb, eq-eqb, ne_eqb, eqb-true, eqb-false}
use Rattle.std.specs.declared.cmp.Ordering.TheVariants.{Less, Equal, Greater}
use Rattle.keys.specs.Pick.{pick}
use Rattle.keys.specs.Key.{order_of, shared_of}
use Rattle.keys.specs.Prefix.{begins_of}

-- how two keys part after n bytes
pub data Parted : List ℕ → List ℕ → ℕ → Type 0 where
  left : {b : List ℕ} → Parted [] b 0
  right : {x : ℕ} {a : List ℕ} → Parted (x ∷ a) [] 0
  here : {x y : ℕ} {a b : List ℕ} → (x ≡ y → ⊥) → Parted (x ∷ a) (y ∷ b) 0
  next : {x : ℕ} {a b : List ℕ} {n : ℕ} → Parted a b n → Parted (x ∷ a) (x ∷ b) (suc n)

pub parted : (a b : List ℕ) → Parted a b (shared_of a b)
unfolding shared_of
parted [] b = left
parted (x ∷ a) [] = right
parted (x ∷ a) (y ∷ b) = go (eqb x y) refl (parted a b)
  where
    go : (t : Bool) → eqb x y ≡ t → Parted a b (shared_of a b) → Parted (x ∷ a) (y ∷ b) (pick t (suc (shared_of a b)) 0)
    go true e p = rw (← eqb-true x y e) (next p)
    go false e p = here (eqb-false x y e)

-- what is before agrees
pub parted_same : {a b : List ℕ} {n : ℕ} → Parted a b n → (i : ℕ) → i < n → get_or a i 0 ≡ get_or b i 0
parted_same left i h = absurd (omega arith)
parted_same right i h = absurd (omega arith)
parted_same (here e) i h = absurd (omega arith)
parted_same (next p) zero h = refl
parted_same (next p) (suc i) h = parted_same p i (omega arith)

-- what is at it differs
pub parted_differ : {a b : List ℕ} {n : ℕ} → Parted a b n → n < length a → n < length b → get_or a n 0 ≡ get_or b n 0 → ⊥
parted_differ left h k = absurd (omega arith)
parted_differ right h k = absurd (omega arith)
parted_differ (here e) h k = e
parted_differ (next p) h k = parted_differ p (omega arith) (omega arith)

pub parted_within : {a b : List ℕ} {n : ℕ} → Parted a b n → (n ≤ length a) × (n ≤ length b)
parted_within left = (omega arith, omega arith)
parted_within right = (omega arith, omega arith)
parted_within (here e) = (omega arith, omega arith)
parted_within (next p) = let w = parted_within p in (omega arith, omega arith)

-- the order by it
pub parted_order : {a b : List ℕ} {n : ℕ} → Parted a b n → order_of (drop n a) (drop n b) ≡ order_of a b
unfolding order_of
parted_order left = refl
parted_order right = refl
parted_order (here e) = refl
parted_order (next {x = x} p) = rw (le-ltb x x (omega arith)) (parted_order p)

-- beginning by it
pub parted_begins : {p k : List ℕ} {n : ℕ} → Parted p k n → eqb n (length p) ≡ begins_of p k
unfolding begins_of
parted_begins left = refl
parted_begins (right {a = a}) = ne_eqb 0 (suc (length a)) (λ e. omega arith)
parted_begins (here {x = x} {y = y} {a = a} e) = rw (ne_eqb x y e) (ne_eqb 0 (suc (length a)) (λ e. omega arith))
parted_begins (next {x = x} {a = a} {n = n} p) = rw (eq-eqb x x refl) (eqb-suc-suc n (length a) ∙ parted_begins p)

-- ---- the comparison: one look at the bytes after the common start
module _ (a b : List ℕ) (n : ℕ) (e : n ≡ shared_of a b) where
  at : Parted a b n
  at = rw e (parted a b)

  pub order_same : length b ≤ n → length a ≤ n → Equal ≡ order_of a b
  unfolding order_of
  order_same h k = rw (drop_of_length-le a k, drop_of_length-le b h) at (parted_order at)

  pub order_right : length b ≤ n → n < length a → Greater ≡ order_of a b
  unfolding order_of
  order_right h k = rw (drop-cons a n 0 k, drop_of_length-le b h) at (parted_order at)

  pub order_left : n < length b → length a ≤ n → Less ≡ order_of a b
  unfolding order_of
  order_left h k = rw (drop_of_length-le a k, drop-cons b n 0 h) at (parted_order at)

  pub order_less : n < length b → n < length a → get_or a n 0 < get_or b n 0 → Less ≡ order_of a b
  unfolding order_of
  order_less h k l = rw (drop-cons a n 0 k, drop-cons b n 0 h, lt-ltb _ _ l) at (parted_order at)

  pub order_more : n < length b → n < length a → get_or b n 0 ≤ get_or a n 0 → Greater ≡ order_of a b
  unfolding order_of
  order_more h k l =
      let m : get_or b n 0 < get_or a n 0 = let d = parted_differ at k h in omega arith in
      rw (drop-cons a n 0 k, drop-cons b n 0 h, le-ltb (get_or a n 0) (get_or b n 0) l, lt-ltb (get_or b n 0) (get_or a n 0) m) at (parted_order at)

pub ruleset orders = (order_same, order_right, order_left, order_less, order_more)

pub begins_by : (p k : List ℕ) (n : ℕ) → n ≡ shared_of p k → eqb n (length p) ≡ begins_of p k
begins_by p k n e = rw e (parted_begins (parted p k))
