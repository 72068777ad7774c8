-- It is enough to look at neighbours: a prefix that is new to ascending ones, none of which begins another, nests with one of
-- them exactly if its successor extends it or its predecessor begins it. Assumes nothing.
use Prim.Native.Nat.{ℕ, zero, suc, ◌+◌, ◌-◌, ◌≤◌, ◌<◌, suc-le-suc}
use mathlib.Core.Path.{◌≡◌}
use mathlib.Core.Bool.{Bool, true, false, not}
use mathlib.Core.List.{List, [], ◌∷◌}
use mathlib.Core.Logic.{◌⊎◌, ⊎_elim}
use mathlib.Core.Logic.◌⊎◌.{inl, inr}
use native.Mathlib.Omega.{arith}
use native.Mathlib.Decide.{dec_lt}
use lib.ListN.{length}
use Rattle.keys.specs.Pick.{pick}
use Rattle.keys.specs.Says.{Says, holds}
use Rattle.keys.specs.Key.{Below, UpTo, less_of}
use Rattle.keys.specs.Prefix.{Bytes, Begins}
use Rattle.keys.proofs.Says.{says_iff, says_and, says_or, says_not, says_same, says_stable, says_true, true_says, says_lt}
use Rattle.keys.proofs.ByteOrder.{up, either, not_both, below_trans, up_to_not, says_less}
use Rattle.keys.proofs.Prefixes.{begins_up_to, begins_under, begins_between, up_to_under, says_begins}
use Rattle.measure.specs.Tests.{all_of, chain}
use Rattle.lawful.proofs.Apart.{Apart}
use Rattle.segments.specs.Prefixes.{prefix_of, leading}
use Rattle.segments.specs.Place.{place_of, extended, begun, refuses3, apart_from}
use Rattle.segments.proofs.Demand3.{Falling, leading_is}
use Rattle.segments.proofs.Places.{place_leads}

pub says_all : (f : List ℕ → Bool) (P : List ℕ → Type 0) → ((q : List ℕ) → Says (P q) (f q)) → (ps : List (List ℕ)) → Says ((i : ℕ) → i < length ps → P (prefix_of ps i)) (all_of f ps)
says_all f P s [] = holds (λ i h. absurd (omega arith))
says_all f P s (q ∷ ps) = says_iff (there, back) (says_and (s q) (says_all f P s ps))
  where
    there : (P q × ((i : ℕ) → i < length ps → P (prefix_of ps i))) → (i : ℕ) → i < length (q ∷ ps) → P (prefix_of (q ∷ ps) i)
    there w zero h = w.0
    there w (suc i) h = w.1 i (omega arith)

    back : ((i : ℕ) → i < length (q ∷ ps) → P (prefix_of (q ∷ ps) i)) → P q × ((i : ℕ) → i < length ps → P (prefix_of ps i))
    back w = (w 0 (omega arith), λ i h. w (suc i) (suc-le-suc h))

lead_most : (f : List ℕ → Bool) (ps : List (List ℕ)) → leading f ps ≤ length ps
lead_most f [] = omega arith
lead_most f (p ∷ ps) = go (f p) (lead_most f ps)
  where
    go : (b : Bool) → leading f ps ≤ length ps → pick b (suc (leading f ps)) 0 ≤ length (p ∷ ps)
    go true h = suc-le-suc h
    go false h = omega arith

module _ (ps : List (List ℕ)) (far : Apart (length ps) (λ i. prefix_of ps i)) (l2 : chain less_of ps ≡ true) (p : List ℕ) (bp : Bytes p) (fresh : (i : ℕ) → i < length ps → prefix_of ps i ≡ p → ⊥) where
  place_most : place_of ps p ≤ length ps
  place_most = rw (place_leads ps p l2) (lead_most (λ q. less_of q p) ps)

  falls : Falling (λ q. less_of q p) ps
  unfolding Falling
  falls i j h l e = true_says (says_less (prefix_of ps i) p) (below_trans (far.ascend i j h l) (says_true (says_less (prefix_of ps j) p) e))

  -- those before the place are below p, and no other
  place_below : (i : ℕ) → i < length ps → i < place_of ps p → Below (prefix_of ps i) p
  place_below i h l = says_true (says_less (prefix_of ps i) p) ((leading_is (λ q. less_of q p) ps falls i h).1 (rw (place_leads ps p l2) at l))

  below_place : (i : ℕ) → i < length ps → Below (prefix_of ps i) p → i < place_of ps p
  below_place i h l = rw (place_leads ps p l2) ((leading_is (λ q. less_of q p) ps falls i h).0 (true_says (says_less (prefix_of ps i) p) l))

  After : Type 0
  After = (place_of ps p < length ps) × Begins p (prefix_of ps (place_of ps p))

  Before : Type 0
  Before = (0 < place_of ps p) × Begins (prefix_of ps (place_of ps p - 1)) p

  All : Type 0
  All = (i : ℕ) → i < length ps → (Begins (prefix_of ps i) p → ⊥) × (Begins p (prefix_of ps i) → ⊥)

  -- what p begins, its successor extends it
  is_after : (i : ℕ) → i < length ps → Begins p (prefix_of ps i) → After
  unfolding After
  is_after i h b = elim (dec_lt (place_of ps p) i) [ yes l ↦ (omega arith, between l) | no l ↦ (let e : place_of ps p ≡ i = omega (arith, least) in rw e (h, b)) ]
    where
      not_below : i < place_of ps p → ⊥
      not_below l = not_both (place_below i h l) (begins_up_to b)

      least : place_of ps p ≤ i
      least = elim (dec_lt i (place_of ps p)) [ yes l ↦ absurd (not_below l) | no l ↦ omega arith ]

      between : place_of ps p < i → Begins p (prefix_of ps (place_of ps p))
      between l =
          let j : ℕ = place_of ps p in
          let k : j < length ps = omega arith in
          let low : UpTo p (prefix_of ps j) = ⊎_elim (λ m. absurd (let z = below_place j k m in omega arith)) (λ m. m) (either (prefix_of ps j) p) in
          (begins_between p (prefix_of ps j) (far.bytes j)).1 (low, up_to_under (up (far.ascend j i l h)) (begins_under b))

  -- what begins p, its predecessor begins it
  is_before : (i : ℕ) → i < length ps → Begins (prefix_of ps i) p → Before
  unfolding Before
  is_before i h b = elim (dec_lt (i + 1) (place_of ps p)) [ yes l ↦ absurd (skips l) | no l ↦ (let e : place_of ps p - 1 ≡ i = omega (arith, inside) in (omega (arith, inside), rw e b)) ]
    where
      inside : i < place_of ps p
      inside = below_place i h (up_to_not (begins_up_to b) (fresh i h))

      skips : i + 1 < place_of ps p → ⊥
      skips l =
          let j : ℕ = place_of ps p - 1 in
          let k : j < length ps = omega (arith, place_most) in
          let m : i < j = omega arith in
          let n : j < place_of ps p = omega arith in
          far.apart i j m k ((begins_between (prefix_of ps i) (prefix_of ps j) (far.bytes j)).1 (up (far.ascend i j m k), up_to_under (up (place_below j k n)) (begins_under b)))

  says_near : Says (After ⊎ Before) (refuses3 ps p)
  unfolding extended begun After Before
  says_near =
      says_or
      (says_and (says_lt (place_of ps p) (length ps)) (says_begins p (prefix_of ps (place_of ps p))))
      (says_and (says_lt 0 (place_of ps p)) (says_begins (prefix_of ps (place_of ps p - 1)) p))

  says_apart : Says All (apart_from ps p)
  unfolding All
  says_apart = says_all _ (λ q. (Begins q p → ⊥) × (Begins p q → ⊥)) (λ q. says_and (says_not (says_begins q p)) (says_not (says_begins p q))) ps

  pub nests_is : refuses3 ps p ≡ not (apart_from ps p)
  unfolding After Before All
  nests_is = says_same (there, back) says_near (says_not says_apart)
    where
      there : After ⊎ Before → All → ⊥
      there w a = ⊎_elim (λ x. (a (place_of ps p) x.0).1 x.1) (λ x. (a (place_of ps p - 1) (omega (arith, place_most, x.0))).0 x.1) w

      back : (All → ⊥) → After ⊎ Before
      back n = says_stable says_near (λ m. n (λ i h. (λ b. m (inr (is_before i h b)), λ b. m (inl (is_after i h b)))))
