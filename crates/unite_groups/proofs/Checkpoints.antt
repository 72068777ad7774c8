-- The checkpoint of a group, and the one supplied with a path. Assumes nothing.
use Rattle.std.specs.Prelude.{None, Option, Some}
use Prim.Native.Nat.{ℕ, ◌+◌, ◌*◌, ◌≤◌, ◌<◌}
use mathlib.Core.Path.{◌≡◌, refl, sym, ◌∙◌}
use mathlib.Core.Bool.{Bool, true, false}
use mathlib.Core.List.{List, [], ◌∷◌, ◌++◌}
use native.Mathlib.Omega.{arith}
use native.Mathlib.Numerals.{add-one}
use Rattle.keys.specs.Pick.{pick}
use Rattle.keys.specs.Key.{order_of}
use Rattle.std.specs.declared.cmp.Ordering.{Ordering}
use Rattle.std.specs.declared.cmp.Ordering.TheVariants.{Less, Equal, Greater}
use Rattle.tables.specs.Layout.{up_to}
use Rattle.ids.specs.Id.{uuid_bytes}
use Rattle.ids.specs.declared.Uuid.{Uuid}
use Rattle.records.specs.Row.{at}
use Rattle.records.specs.Decode.{bytes_in}
use Rattle.records.specs.declared.Place.{Place}
use Rattle.segments.specs.Lookup.{same_of as same_bytes}
use Rattle.unite_groups.specs.Chosen.{Supply, or_before, supplied_with, same_uuid, lesser}
use Rattle.unite_groups.specs.Rows.{supply_at, supplies_in, better}
use Rattle.unite_groups.specs.Steps.{supplied_next}

-- ---- the lesser, the better

module _ (a b : Uuid) (r : Ordering) (e : r ≡ order_of (uuid_bytes b) (uuid_bytes a)) where
  pub lesser_less : r ≡ Less → b ≡ lesser a b
  lesser_less t = rw (sym e ∙ t)

  pub lesser_same : r ≡ Equal → a ≡ lesser a b
  lesser_same t = rw (sym e ∙ t)

  pub lesser_more : r ≡ Greater → a ≡ lesser a b
  lesser_more t = rw (sym e ∙ t)

module _ (s : Option Uuid) (old new : Uuid) where
  pub better_none : (r : Uuid) → s ≡ None → r ≡ lesser old new → r ≡ better s old new
  better_none r t e = rw t e

  module _ (u : Uuid) (t : s ≡ Some u) (b : Bool) (e : b ≡ same_uuid u new) where
    pub better_new : b ≡ true → u ≡ better s old new
    better_new h = rw (t, sym e ∙ h)

    module _ (h : b ≡ false) (d : Bool) (f : d ≡ same_uuid u old) where
      pub better_old : d ≡ true → old ≡ better s old new
      better_old k = rw (t, sym e ∙ h, sym f ∙ k)

      pub better_lesser : (r : Uuid) → d ≡ false → r ≡ lesser old new → r ≡ better s old new
      better_lesser r k q = rw (t, sym e ∙ h, sym f ∙ k) q

-- ---- the last source of a path

or_assoc : (a b c : Option Uuid) → or_before (or_before a b) c ≡ or_before a (or_before b c)
or_assoc None b c = refl
or_assoc (Some u) b c = refl

pub supplied_more : (ss : List Supply) (x : Supply) (p : List ℕ) → supplied_with (ss ++ (x ∷ [])) p ≡ supplied_next x p (supplied_with ss p)
unfolding supplied_with
supplied_more [] x p = sym (or_none (pick (same_bytes x.path p) (Some x.checkpoint) None))
  where
    or_none : (a : Option Uuid) → or_before a None ≡ a
    or_none None = refl
    or_none (Some u) = refl
supplied_more (s ∷ ss) x p =
    rw (supplied_more ss x p) (or_assoc (pick (same_bytes x.path p) (Some x.checkpoint) None) (supplied_with ss p) (pick (same_bytes s.path p) (Some s.checkpoint) None))

module _ (t pool : List ℕ) (i : ℕ) (p : Place) (before : Option Uuid) (a l : ℕ) (e : a ≡ at t (i * 4)) (f : l ≡ at t (i * 4 + 1)) (x y : List ℕ) (g : x ≡ bytes_in pool (record { at = a; len = l })) (h : y ≡ bytes_in pool p) (r : Ordering) (k : r ≡ order_of x y) where
  path_is : r ≡ order_of (supply_at t pool i).path (bytes_in pool p)
  path_is = rw (← e, ← f, ← g, ← h) k

  pub supply_less : r ≡ Less → before ≡ supplied_next (supply_at t pool i) (bytes_in pool p) before
  supply_less q = rw (sym path_is ∙ q)

  pub supply_more : r ≡ Greater → before ≡ supplied_next (supply_at t pool i) (bytes_in pool p) before
  supply_more q = rw (sym path_is ∙ q)

  pub supply_same : r ≡ Equal → Some (at t (i * 4 + 2), at t (i * 4 + 3)) ≡ supplied_next (supply_at t pool i) (bytes_in pool p) before
  supply_same q = rw (sym path_is ∙ q)

-- the first i sources have been looked at
pub record Looked (t pool p : List ℕ) (n : ℕ) (s : Option Uuid) (i : ℕ) : Type 0 where
  pub within : i ≤ n
  pub is : s ≡ supplied_with (supplies_in t pool i) p

module _ (t pool p : List ℕ) (n : ℕ) where
  pub looked_none : Looked t pool p n None 0
  unfolding supplied_with supplies_in
  looked_none = record { within = omega arith; is = refl }

  module _ (s : Option Uuid) (i : ℕ) (w : Looked t pool p n s i) where
    pub looked_more : (r : Option Uuid) → i < n → r ≡ supplied_next (supply_at t pool i) p s → Looked t pool p n r (i + 1)
    unfolding supplies_in
    looked_more r h e = record { within = omega arith; is = rw (add-one i, supplied_more (up_to (supply_at t pool) i) (supply_at t pool i) p, ← w.is) e }

    pub looked_all : n ≤ i → s ≡ supplied_with (supplies_in t pool n) p
    looked_all h = let e : i ≡ n = omega (arith, w.within) in rw e at w.is
