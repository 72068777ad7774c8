-- What the arms of the code know. Assumes nothing.
use Rattle.std.specs.Prelude.{None, Some}
use Prim.Native.Nat.{ℕ, zero, suc, ◌+◌, ◌-◌, ◌/◌, ◌^◌, ◌≤◌, ◌<◌, suc-le-suc}
use mathlib.Core.Path.{◌≡◌, sym, ◌∙◌}
use mathlib.Core.Bool.{Bool, true, false}
use mathlib.Core.List.{List, [], ◌∷◌}
use native.Mathlib.Omega.{arith}
use native.Mathlib.Nat.{div-le_self, lt_trans, lt_of_lt_of_le}
use lib.ListN.{length}
use borrow.Author.Tests.{lt-ltb, le-ltb, ltb-true}
use mir.Syntax.{w64}
use mir.Val.{Fits}
use Rattle.keys.specs.Pick.{pick}
use Rattle.keys.specs.Key.{less_of}
use Rattle.keys.specs.Prefix.{begins_of}
use Rattle.tables.specs.Layout.{up_to}
use Rattle.tables.specs.Window.{held_of}
use Rattle.tables.specs.declared.Window.{Window}
use Rattle.tables.proofs.Holds.{up_to_front}
use Rattle.tables.proofs.Windows.{held_in}
use Rattle.lawful.specs.Steps.{prefix_at}
use Rattle.segments.specs.Prefixes.{prefix_of, prefixes_in}
use Rattle.segments.specs.Place.{counted, place_of, extended, begun}
use Rattle.segments.proofs.Answers.{in_length}
use Rattle.segments.proofs.Places.{and_both}
use Rattle.insert.specs.Nesting.{nesting_of}

up_to_at : (g : ℕ → List ℕ) (n i : ℕ) → i < n → prefix_of (up_to g n) i ≡ g i
up_to_at g zero i h = absurd (omega arith)
up_to_at g (suc n) zero h = rw (up_to_front g n)
up_to_at g (suc n) (suc i) h = rw (up_to_front g n) (up_to_at (λ k. g (suc k)) n i (omega arith))

counted_most : (f : List ℕ → Bool) (ps : List (List ℕ)) → counted f ps ≤ length ps
counted_most f [] = omega arith
counted_most f (p ∷ ps) = go (f p) (counted_most f ps)
  where
    go : (b : Bool) → counted f ps ≤ length ps → pick b (suc (counted f ps)) (counted f ps) ≤ length (p ∷ ps)
    go true h = suc-le-suc h
    go false h = omega arith

module _ (segments pool : List ℕ) (w : Window) (p : List ℕ) (place : ℕ) (e : place ≡ place_of (prefixes_in segments pool w) p) where
  pub row_is : (i : ℕ) → i < held_of w (length segments / 12) → prefix_of (prefixes_in segments pool w) i ≡ prefix_at segments pool (w.first + i)
  unfolding prefixes_in
  row_is i h = up_to_at (λ k. prefix_at segments pool (w.first + k)) (held_of w (length segments / 12)) i h

  pub most : place ≤ held_of w (length segments / 12)
  unfolding place_of
  most = rw (e, ← in_length segments pool w) (counted_most (λ q. less_of q p) (prefixes_in segments pool w))

  module _ (n : ℕ) (g : n ≡ held_of w (length segments / 12)) where
    pub after_in : place < n → w.first + place < length segments / 12
    after_in h = held_in w (length segments / 12) place (omega arith)

    pub after_fits : place < n → length segments < 2 ^ 64 → Fits w64 (w.first + place)
    after_fits h m = record { fits = lt_trans (lt_of_lt_of_le (after_in h) (div-le_self (length segments) 12)) m }

    pub after_is : (r : Bool) → place < n → r ≡ begins_of p (prefix_at segments pool (w.first + place)) → r ≡ extended (prefixes_in segments pool w) p
    unfolding extended
    after_is r h f = rw (← e, in_length segments pool w, ← g, lt-ltb place n h, row_is place (omega arith)) f

    pub after_none : n ≤ place → false ≡ extended (prefixes_in segments pool w) p
    unfolding extended
    after_none h = rw (← e, in_length segments pool w, ← g, le-ltb place n h)

  pub before_in : 0 < place → w.first + (place - 1) < length segments / 12
  before_in h = held_in w (length segments / 12) (place - 1) (omega (arith, most))

  pub before_fits : 0 < place → length segments < 2 ^ 64 → Fits w64 (w.first + (place - 1))
  before_fits h m = record { fits = lt_trans (lt_of_lt_of_le (before_in h) (div-le_self (length segments) 12)) m }

  pub before_is : (r : Bool) → 0 < place → r ≡ begins_of (prefix_at segments pool (w.first + (place - 1))) p → r ≡ begun (prefixes_in segments pool w) p
  unfolding begun
  before_is r h f = rw (← e, lt-ltb 0 place h, row_is (place - 1) (omega (arith, most))) f

  pub before_none : place ≤ 0 → false ≡ begun (prefixes_in segments pool w) p
  unfolding begun
  before_none h = rw (← e, le-ltb 0 place h)

  module _ (x : Bool) (f : x ≡ extended (prefixes_in segments pool w) p) where
    pub nests_after : x ≡ true → Some place ≡ nesting_of (prefixes_in segments pool w) p
    nests_after t = rw (sym f ∙ t, e)

    module _ (y : Bool) (t : x ≡ false) (g : y ≡ begun (prefixes_in segments pool w) p) where
      pub nests_before : y ≡ true → Some (place - 1) ≡ nesting_of (prefixes_in segments pool w) p
      nests_before u = rw (sym f ∙ t, sym g ∙ u, e)

      pub nests_none : y ≡ false → None ≡ nesting_of (prefixes_in segments pool w) p
      nests_none u = rw (sym f ∙ t, sym g ∙ u)

  pub before_some : (y : Bool) → y ≡ begun (prefixes_in segments pool w) p → y ≡ true → 1 ≤ place
  unfolding begun
  before_some y g u = rw e (ltb-true 0 (place_of (prefixes_in segments pool w) p) (and_both _ _ (sym g ∙ u)).0)

pub ruleset conflicts = (after_in, after_fits, after_is, after_none, before_in, before_fits, before_is, before_none, nests_after, nests_before, nests_none, before_some)
