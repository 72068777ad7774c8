-- The successor as the code finds it, from the end, is the one of the definition.
use Rattle.std.specs.Prelude.{None, Some}
use Prim.Native.Nat.{ℕ, zero, suc, ◌-◌, ◌≤◌, ◌<◌}
use mathlib.Core.Path.{◌≡◌, refl, sym, ap, ◌∙◌}
use mathlib.Core.List.{List, [], ◌∷◌, ◌++◌}
use mathlib.Core.Bool.{Bool, true, false}
use native.Mathlib.Omega.{arith}
use lib.Dec.{ltb}
use lib.ListN.{length, get_or, take, length-append}
use lib.Seq.{take-suc, take_all, length-take-le}
use borrow.Author.Tests.{lt-ltb, le-ltb}
use Rattle.keys.specs.Pick.{pick}
use Rattle.keys.specs.Prefix.{keep_before, without_ff, last_up, after, left_of, successor_of, grown_top}

-- ---- what the answer says of p is what `after` says: the bytes that are left are p's first
pub successor_after : (p : List ℕ) → grown_top p (successor_of p) ≡ after p
unfolding successor_of after
successor_after p = go (without_ff p) (first p)
  where
    first : (p : List ℕ) → take (length (without_ff p)) p ≡ without_ff p
    first [] = refl
    first (x ∷ p) = step (without_ff p) (first p)
      where
        last : (b : Bool) → take (length (pick b (x ∷ []) [])) (x ∷ p) ≡ pick b (x ∷ []) []
        last true = refl
        last false = refl

        step : (q : List ℕ) → take (length q) p ≡ q → take (length (keep_before x q)) (x ∷ p) ≡ keep_before x q
        step [] e = last (ltb x 255)
        step (y ∷ q) e = ap (λ l. x ∷ l) e

    go : (q : List ℕ) → take (length q) p ≡ q → grown_top p (left_of q) ≡ last_up q
    go [] e = refl
    go (x ∷ q) e = ap last_up e

-- ---- the loop, from the end
keep_grows : (y : ℕ) (q : List ℕ) (x : ℕ) → keep_before y (q ++ x ∷ []) ≡ y ∷ (q ++ x ∷ [])
keep_grows y [] x = refl
keep_grows y (z ∷ q) x = refl

last_stays : (q : List ℕ) (x : ℕ) → x < 255 → without_ff (q ++ x ∷ []) ≡ q ++ x ∷ []
last_stays [] x h = rw (lt-ltb x 255 h)
last_stays (y ∷ q) x h = rw (last_stays q x h) (keep_grows y q x)

last_drops : (q : List ℕ) (x : ℕ) → 255 ≤ x → without_ff (q ++ x ∷ []) ≡ without_ff q
last_drops [] x h = rw (le-ltb x 255 h)
last_drops (y ∷ q) x h = rw (last_drops q x h)

left_snoc : (q : List ℕ) (x : ℕ) → left_of (q ++ x ∷ []) ≡ Some (suc (length q))
left_snoc [] x = refl
left_snoc (y ∷ q) x = ap (λ n. Some (suc n)) (rw (length-append q (x ∷ [])) (omega arith))

-- the bytes from n on are FF: the first n decide
pub record Dropped (p : List ℕ) (n : ℕ) : Type 0 where
  pub within : n ≤ length p
  pub rest : without_ff (take n p) ≡ without_ff p

pub dropped_none : (p : List ℕ) → Dropped p (length p)
dropped_none p = record { within = omega arith; rest = rw (take_all (length p) p (omega arith)) }

take_last : (p : List ℕ) (n : ℕ) → 0 < n → n ≤ length p → take n p ≡ take (n - 1) p ++ get_or p (n - 1) 0 ∷ []
take_last p zero h k = absurd (omega arith)
take_last p (suc n) h k = let e : suc n - 1 ≡ n = omega arith in rw e (take-suc p n 0 (omega arith))

module _ (p : List ℕ) (n : ℕ) (w : Dropped p n) where
  pub dropped_grows : 0 < n → get_or p (n - 1) 0 < 255 → Some n ≡ successor_of p
  unfolding successor_of
  dropped_grows h l =
      let q : List ℕ = take (n - 1) p in
      let e : suc (length q) ≡ n = rw (length-take-le (n - 1) p (omega (arith, w.within))) (omega arith) in
      let s : without_ff p ≡ q ++ get_or p (n - 1) 0 ∷ [] = sym w.rest ∙ rw (take_last p n h w.within) (last_stays q (get_or p (n - 1) 0) l) in
      rw s (rw (left_snoc q (get_or p (n - 1) 0), e) refl)

  pub dropped_next : 0 < n → 255 ≤ get_or p (n - 1) 0 → Dropped p (n - 1)
  dropped_next h l =
      record {
        within = omega (arith, w.within);
        rest = sym (last_drops (take (n - 1) p) (get_or p (n - 1) 0) l) ∙ (rw (take_last p n h w.within) at w.rest);
      }

  pub dropped_all : n ≤ 0 → None ≡ successor_of p
  unfolding successor_of
  dropped_all h = let e : n ≡ 0 = omega arith in let s : without_ff p ≡ [] = sym (rw e at w.rest) in rw s

pub ruleset grow = (dropped_none, dropped_grows, dropped_next, dropped_all)
