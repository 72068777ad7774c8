-- The place of a prefix among ascending ones. Assumes nothing.
use Prim.Native.Nat.{ℕ, suc, ◌+◌, ◌/◌}
use mathlib.Core.Path.{◌≡◌, refl, sym, ap}
use mathlib.Core.Bool.{Bool, true, false, ◌&&◌, true≢false}
use mathlib.Core.List.{List, [], ◌∷◌}
use lib.ListN.{length}
use Rattle.keys.specs.Pick.{pick}
use Rattle.keys.specs.Key.{less_of}
use Rattle.keys.proofs.Says.{says_true, says_false, true_says, false_says}
use Rattle.keys.proofs.ByteOrder.{below_trans, says_less}
use Rattle.tables.specs.Window.{held_of}
use Rattle.tables.specs.declared.Window.{Window}
use Rattle.measure.specs.Tests.{all_of, chain, pairs}
use Rattle.lawful.specs.Steps.{prefix_at}
use Rattle.lawful.proofs.Pairs.{chain_pairs}
use Rattle.segments.specs.Prefixes.{leading, prefixes_in}
use Rattle.segments.specs.Place.{counted, place_of}
use Rattle.segments.proofs.Fronts.{Led, led_none}

pub and_both : (a b : Bool) → (a && b) ≡ true → (a ≡ true) × (b ≡ true)
and_both true b e = (refl, e)
and_both false b e = absurd (true≢false (sym e))

pub less_trans : (a b c : List ℕ) → less_of a b ≡ true → less_of b c ≡ true → less_of a c ≡ true
less_trans a b c h k = true_says (says_less a c) (below_trans (says_true (says_less a b) h) (says_true (says_less b c) k))

-- what is not below p has only such above it
none_above : (p x : List ℕ) → less_of x p ≡ false → (ys : List (List ℕ)) → all_of (less_of x) ys ≡ true → counted (λ q. less_of q p) ys ≡ 0
none_above p x n [] e = refl
none_above p x n (y ∷ ys) e =
    let w = and_both (less_of x y) (all_of (less_of x) ys) e in
    let m : less_of y p ≡ false = false_says (says_less y p) (λ l. says_false (says_less x p) n (below_trans (says_true (says_less x y) w.0) l)) in
    rw m (none_above p x n ys w.1)

counted_is : (p : List ℕ) (ps : List (List ℕ)) → pairs less_of ps ≡ true → counted (λ q. less_of q p) ps ≡ leading (λ q. less_of q p) ps
counted_is p [] e = refl
counted_is p (x ∷ ps) e =
    let w = and_both (all_of (less_of x) ps) (pairs less_of ps) e in
    go (less_of x p) refl (counted_is p ps w.1) (λ h. none_above p x h ps w.0)
  where
    go : (b : Bool) → less_of x p ≡ b
        → counted (λ q. less_of q p) ps ≡ leading (λ q. less_of q p) ps → (less_of x p ≡ false → counted (λ q. less_of q p) ps ≡ 0)
        → pick b (suc (counted (λ q. less_of q p) ps)) (counted (λ q. less_of q p) ps) ≡ pick b (suc (leading (λ q. less_of q p) ps)) 0
    go true h ih n = ap suc ih
    go false h ih n = n h

-- those below are at the front
pub place_leads : (ps : List (List ℕ)) (p : List ℕ) → chain less_of ps ≡ true → place_of ps p ≡ leading (λ q. less_of q p) ps
unfolding place_of
place_leads ps p e = counted_is p ps (chain_pairs less_of less_trans ps e)

-- ---- in a table
pub place_none :
    (segments pool : List ℕ) (w : Window) (p : List ℕ) (n : ℕ) → n ≡ held_of w (length segments / 12) → chain less_of (prefixes_in segments pool w) ≡ true
    → Led (place_of (prefixes_in segments pool w) p) (λ i. less_of (prefix_at segments pool (w.first + i)) p) n 0
unfolding prefixes_in
place_none segments pool w p n e h = led_none (λ q. less_of q p) (λ k. prefix_at segments pool (w.first + k)) _ n _ e (place_leads (prefixes_in segments pool w) p h)
