-- A prefix that is held among ascending ones stands at its place. Assumes nothing.
use Prim.Native.Nat.{ℕ, suc, ◌+◌, ◌/◌, ◌≤◌, ◌<◌}
use mathlib.Core.Path.{◌≡◌, refl, sym, ap, ◌∙◌}
use mathlib.Core.Bool.{Bool, true, false, not, true≢false}
use mathlib.Core.List.{List, [], ◌∷◌}
use native.Mathlib.Omega.{arith}
use lib.ListN.{length}
use borrow.Author.Tests.{lt-ltb, le-ltb}
use Rattle.keys.specs.Says.{Says, holds, fails}
use Rattle.keys.specs.Key.{order_of, less_of, is_equal}
use Rattle.std.specs.declared.cmp.Ordering.{Ordering}
use Rattle.std.specs.declared.cmp.Ordering.TheVariants.{Less, Equal, Greater}
use Rattle.keys.proofs.Says.{false_says, says_lt}
use Rattle.keys.proofs.ByteOrder.{Stand, stand, below_irrefl}
use Rattle.tables.specs.Window.{held_of}
use Rattle.tables.specs.declared.Window.{Window}
use Rattle.measure.specs.Tests.{all_of, chain, pairs}
use Rattle.lawful.specs.Steps.{prefix_at}
use Rattle.lawful.proofs.Pairs.{chain_pairs}
use Rattle.segments.specs.Prefixes.{prefix_of, leading, prefixes_in}
use Rattle.segments.specs.Lookup.{same_of, index_of}
use Rattle.segments.specs.Place.{place_of}
use Rattle.segments.specs.Insert.{holds_of}
use Rattle.segments.proofs.Answers.{in_length}
use Rattle.segments.proofs.Places.{and_both, less_trans, place_leads}
use Rattle.insert.proofs.Conflicts.{row_is}

pub says_equal : (a b : List ℕ) → Says (a ≡ b) (same_of a b)
says_equal a b = go (stand a b)
  where
    go : {o : Ordering} → Stand a b o → Says (a ≡ b) (is_equal o)
    go (Stand.less h) = fails (λ e. below_irrefl (rw e at h))
    go (Stand.same e) = holds e
    go (Stand.more h) = fails (λ e. below_irrefl (rw e at h))

module _ (p : List ℕ) where
  -- what stands above one that is not below p is not p
  none_later : (x : List ℕ) → less_of x p ≡ false → (ys : List (List ℕ)) → all_of (less_of x) ys ≡ true → leading (λ q. not (same_of q p)) ys ≡ length ys
  none_later x h [] e = refl
  none_later x h (y ∷ ys) e =
      let w = and_both (less_of x y) (all_of (less_of x) ys) e in
      let n : same_of y p ≡ false = false_says (says_equal y p) (λ q. true≢false (sym (rw q at w.0) ∙ h)) in
      rw n (ap suc (none_later x h ys w.1))

  found_lead : (ps : List (List ℕ)) → leading (λ q. less_of q p) ps < length ps → same_of (prefix_of ps (leading (λ q. less_of q p) ps)) p ≡ true
      → leading (λ q. not (same_of q p)) ps ≡ leading (λ q. less_of q p) ps
  found_lead [] l e = absurd (omega arith)
  found_lead (x ∷ ps) l e = go (order_of x p) refl (found_lead ps)
    where
      go : (o : Ordering) → order_of x p ≡ o → (leading (λ q. less_of q p) ps < length ps → same_of (prefix_of ps (leading (λ q. less_of q p) ps)) p ≡ true → leading (λ q. not (same_of q p)) ps ≡ leading (λ q. less_of q p) ps)
          → leading (λ q. not (same_of q p)) (x ∷ ps) ≡ leading (λ q. less_of q p) (x ∷ ps)
      go Less h ih = let l' = rw h at l in let e' = rw h at e in rw h (ap suc (ih (omega arith) e'))
      go Equal h ih = rw h
      go Greater h ih = let e' = rw h at e in absurd (true≢false (sym e' ∙ ap is_equal h))

  absent_lead : (ps : List (List ℕ)) → pairs less_of ps ≡ true → (leading (λ q. less_of q p) ps < length ps → same_of (prefix_of ps (leading (λ q. less_of q p) ps)) p ≡ false)
      → leading (λ q. not (same_of q p)) ps ≡ length ps
  absent_lead [] a n = refl
  absent_lead (x ∷ ps) a n = go (order_of x p) refl (absent_lead ps w.1)
    where
      w : (all_of (less_of x) ps ≡ true) × (pairs less_of ps ≡ true)
      w = and_both (all_of (less_of x) ps) (pairs less_of ps) a

      go : (o : Ordering) → order_of x p ≡ o → ((leading (λ q. less_of q p) ps < length ps → same_of (prefix_of ps (leading (λ q. less_of q p) ps)) p ≡ false) → leading (λ q. not (same_of q p)) ps ≡ length ps)
          → leading (λ q. not (same_of q p)) (x ∷ ps) ≡ length (x ∷ ps)
      go Less h ih = let n' = rw h at n in rw h (ap suc (ih (λ l. n' (omega arith))))
      go Equal h ih = let n' = rw h at n in absurd (true≢false (sym (ap is_equal h) ∙ n' (omega arith)))
      go Greater h ih = rw h (ap suc (none_later x (rw h) ps w.0))

module _ (ps : List (List ℕ)) (p : List ℕ) (up : chain less_of ps ≡ true) where
  found_place : place_of ps p < length ps → same_of (prefix_of ps (place_of ps p)) p ≡ true → index_of ps p ≡ place_of ps p
  unfolding index_of
  found_place l e = rw (place_leads ps p up) (found_lead p ps (rw (place_leads ps p up) at l) (rw (place_leads ps p up) at e))

  absent_place : (place_of ps p < length ps → same_of (prefix_of ps (place_of ps p)) p ≡ false) → index_of ps p ≡ length ps
  unfolding index_of
  absent_place n = absent_lead p ps (chain_pairs less_of less_trans ps up) (rw (place_leads ps p up) at n)

  -- what is held is held at its place
  pub held_place : holds_of ps p ≡ true → place_of ps p ≡ index_of ps p
  held_place h = go (says_lt (place_of ps p) (length ps))
    where
      absent : (place_of ps p < length ps → same_of (prefix_of ps (place_of ps p)) p ≡ false) → ⊥
      absent n = let e = absent_place n in true≢false (sym h ∙ le-ltb (index_of ps p) (length ps) (omega arith))

      at : (b : Bool) → same_of (prefix_of ps (place_of ps p)) p ≡ b → place_of ps p < length ps → place_of ps p ≡ index_of ps p
      at true e l = sym (found_place l e)
      at false e l = absurd (absent (λ _. e))

      go : {b : Bool} → Says (place_of ps p < length ps) b → place_of ps p ≡ index_of ps p
      go (holds l) = at (same_of (prefix_of ps (place_of ps p)) p) refl l
      go (fails n) = absurd (absent (λ l. absurd (n l)))

  held_by : place_of ps p < length ps → same_of (prefix_of ps (place_of ps p)) p ≡ holds_of ps p
  held_by l = go (same_of (prefix_of ps (place_of ps p)) p) refl
    where
      go : (b : Bool) → same_of (prefix_of ps (place_of ps p)) p ≡ b → b ≡ holds_of ps p
      go true e = sym (rw (found_place l e) (lt-ltb (place_of ps p) (length ps) l))
      go false e = let i = absent_place (λ _. e) in sym (le-ltb (index_of ps p) (length ps) (omega arith))

  held_past : length ps ≤ place_of ps p → false ≡ holds_of ps p
  held_past h = let i = absent_place (λ l. absurd (omega arith)) in sym (le-ltb (index_of ps p) (length ps) (omega arith))

-- ---- in a table
module _ (segments pool : List ℕ) (w : Window) (p : List ℕ) (place n : ℕ) (up : chain less_of (prefixes_in segments pool w) ≡ true) (e : place ≡ place_of (prefixes_in segments pool w) p) (g : n ≡ held_of w (length segments / 12)) where
  pub held_here : (r : Bool) → place < n → r ≡ not (same_of (prefix_at segments pool (w.first + place)) p) → not r ≡ holds_of (prefixes_in segments pool w) p
  held_here r h f =
      let k : length (prefixes_in segments pool w) ≡ n = in_length segments pool w ∙ sym g in
      let l : place_of (prefixes_in segments pool w) p < length (prefixes_in segments pool w) = rw (k, ← e) h in
      let s : same_of (prefix_at segments pool (w.first + place)) p ≡ holds_of (prefixes_in segments pool w) p = rw (← row_is segments pool w p place e place (omega arith), e) (held_by (prefixes_in segments pool w) p up l) in
      ap not f ∙ twice (same_of (prefix_at segments pool (w.first + place)) p) ∙ s
    where
      twice : (x : Bool) → not (not x) ≡ x
      twice true = refl
      twice false = refl

  pub held_nowhere : n ≤ place → false ≡ holds_of (prefixes_in segments pool w) p
  held_nowhere h =
      let k : length (prefixes_in segments pool w) ≡ n = in_length segments pool w ∙ sym g in
      held_past (prefixes_in segments pool w) p up (rw (k, ← e) h)

pub ruleset helds = (held_here, held_nowhere)
