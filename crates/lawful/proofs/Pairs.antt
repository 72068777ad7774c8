-- L2 and L3 over a manifest of the model: of any two segments the earlier prefix is below the later. Assumes nothing.
use mathlib.Core.Path.{◌≡◌, refl}
use mathlib.Core.Bool.{Bool, true, false, ◌&&◌}
use mathlib.Core.List.{List, [], ◌∷◌}
use Rattle.keys.specs.Key.{less_of}
use Rattle.keys.proofs.Says.{says_true, true_says}
use Rattle.keys.proofs.ByteOrder.{below_trans, says_less}
use Rattle.records.specs.Model.{Segment, Manifest}
use Rattle.measure.specs.Tests.{all_of, chain, pairs}
use Rattle.lawful.specs.Law.{l2_of}

and_first : (a b : Bool) → (a && b) ≡ true → a ≡ true
and_first true b e = refl
and_first false b e = e

and_second : (a b : Bool) → (a && b) ≡ true → b ≡ true
and_second true b e = e
and_second false b e = cc

module _ {A : Type 0} (r : A → A → Bool) (trans : (x y z : A) → r x y ≡ true → r y z ≡ true → r x z ≡ true) where
  all_on : (x y : A) → r x y ≡ true → (zs : List A) → all_of (r y) zs ≡ true → all_of (r x) zs ≡ true
  all_on x y h [] e = refl
  all_on x y h (z ∷ zs) e =
      rw (trans x y z h (and_first (r y z) (all_of (r y) zs) e), all_on x y h zs (and_second (r y z) (all_of (r y) zs) e))

  chain_first : (x : A) (ys : List A) → chain r (x ∷ ys) ≡ true → all_of (r x) ys ≡ true
  chain_first x [] e = refl
  chain_first x (y ∷ ys) e =
      let h = and_first (r x y) (chain r (y ∷ ys)) e in
      rw (h, all_on x y h ys (chain_first y ys (and_second (r x y) (chain r (y ∷ ys)) e)))

  -- neighbours that stand so all stand so
  pub chain_pairs : (xs : List A) → chain r xs ≡ true → pairs r xs ≡ true
  chain_pairs [] e = refl
  chain_pairs (x ∷ []) e = refl
  chain_pairs (x ∷ y ∷ ys) e = rw (chain_first x (y ∷ ys) e, chain_pairs (y ∷ ys) (and_second (r x y) (chain r (y ∷ ys)) e))

pub l2_pairs : (m : Manifest) → l2_of m ≡ true → pairs (λ s t. less_of s.prefix t.prefix) m.segments ≡ true
unfolding l2_of
l2_pairs m e = chain_pairs (λ s t. less_of s.prefix t.prefix) trans m.segments e
  where
    trans : (s t u : Segment) → less_of s.prefix t.prefix ≡ true → less_of t.prefix u.prefix ≡ true → less_of s.prefix u.prefix ≡ true
    trans s t u a b = true_says (says_less s.prefix u.prefix) (below_trans (says_true (says_less s.prefix t.prefix) a) (says_true (says_less t.prefix u.prefix) b))
