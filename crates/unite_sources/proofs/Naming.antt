-- Names that are the same, and whether all are. Assumes nothing.
use Rattle.std.specs.Prelude.{None, Option, Some}
use Prim.Native.Nat.{ℕ, zero, suc, ◌+◌, ◌≤◌, ◌<◌}
use mathlib.Core.Path.{◌≡◌, refl, sym, ap, ◌∙◌}
use mathlib.Core.Bool.{Bool, true, false, not}
use mathlib.Core.List.{List, []}
use native.Mathlib.Omega.{arith}
use native.Mathlib.Numerals.{add-one}
use lib.ListN.{length, drop}
use lib.Seq.{drop-length}
use Rattle.keys.specs.Key.{order_of}
use Rattle.std.specs.declared.cmp.Ordering.{Ordering}
use Rattle.std.specs.declared.cmp.Ordering.TheVariants.{Less, Equal, Greater}
use Rattle.tables.specs.Layout.{up_to}
use Rattle.tables.proofs.Holds.{up_to_front}
use Rattle.tables.proofs.Joined.{up_to_length}
use Rattle.records.specs.Model.{Extractor, none, named}
use Rattle.records.specs.Row.{at, place_at, optional}
use Rattle.records.specs.Decode.{bytes_in, name_in}
use Rattle.records.specs.declared.Place.{Place}
use Rattle.segments.specs.Lookup.{same_of}
use Rattle.merge.specs.Merge.{some_of}
use Rattle.merge.proofs.Ascending.{itself}
use Rattle.unite_ranges.proofs.Placed.{drop_up_to}
use Rattle.unite_sources.specs.Source.{same_name, names_differ}
use Rattle.unite_sources.specs.Rows.{name_at_word}

module _ (pool : List ℕ) (a b : Option Place) where
  pub both_absent : a ≡ None → b ≡ None → true ≡ same_name (name_in pool a) (name_in pool b)
  both_absent e f = rw (e, f)

  pub first_absent : (q : Place) → a ≡ None → b ≡ Some q → false ≡ same_name (name_in pool a) (name_in pool b)
  first_absent q e f = rw (e, f)

  pub second_absent : (p : Place) → a ≡ Some p → b ≡ None → false ≡ same_name (name_in pool a) (name_in pool b)
  second_absent p e f = rw (e, f)

  pub both_named : (p q : Place) (x y : List ℕ) (r : Bool) → a ≡ Some p → b ≡ Some q → x ≡ bytes_in pool p → y ≡ bytes_in pool q → r ≡ same_of x y → r ≡ same_name (name_in pool a) (name_in pool b)
  both_named p q x y r e f g h k = rw (e, f) (k ∙ rw (g, h))

pub ruleset names_same = (both_absent, first_absent, second_absent, both_named)

pub named_is : (pool t : List ℕ) (b : ℕ) (first name : Option Place) (r : Bool) → name ≡ optional None Some (at t (b + 12)) (place_at t (b + 13)) → r ≡ same_name (name_in pool first) (name_in pool name)
    → r ≡ same_name (name_in pool first) (name_at_word pool t b)
named_is pool t b first name r e h = h ∙ ap (λ (z : Option Place). same_name (name_in pool first) (name_in pool z)) e

name_itself : (k : Extractor) → same_name k k ≡ true
name_itself none = refl
name_itself (named a) = itself a

-- ---- a loop: none of the first i differs from the first
pub record Agreeing (k : Extractor) (f : ℕ → Extractor) (n i : ℕ) : Type 0 where
  pub within : i ≤ n
  pub says : some_of (λ j. not (same_name k j)) (drop i (up_to f n)) ≡ names_differ (up_to f n)

pub agreeing_none : (k : Extractor) (f : ℕ → Extractor) (n : ℕ) → k ≡ f 0 → Agreeing k f n 0
unfolding names_differ
agreeing_none k f zero e = record { within = omega arith; says = refl }
agreeing_none k f (suc n) e = record { within = omega arith; says = rw (e, up_to_front f n, name_itself (f 0)) }

module _ {k : Extractor} {f : ℕ → Extractor} {n i : ℕ} (w : Agreeing k f n i) where
  pub agreeing_more : (r : Bool) → i < n → r ≡ same_name k (f i) → r ≡ true → Agreeing k f n (i + 1)
  agreeing_more r h e t =
      record {
        within = omega arith;
        says =
            let m : some_of (λ j. not (same_name k j)) (drop i (up_to f n)) ≡ some_of (λ j. not (same_name k j)) (drop (suc i) (up_to f n)) = rw (drop_up_to f n i h, sym e ∙ t) in
            rw (add-one i) (sym m ∙ w.says);
      }

  pub agreeing_met : (r : Bool) → i < n → r ≡ same_name k (f i) → r ≡ false → true ≡ names_differ (up_to f n)
  agreeing_met r h e t = let m : some_of (λ j. not (same_name k j)) (drop i (up_to f n)) ≡ true = rw (drop_up_to f n i h, sym e ∙ t) in sym m ∙ w.says

  pub agreeing_all : n ≤ i → false ≡ names_differ (up_to f n)
  agreeing_all h =
      let e : length (up_to f n) ≡ i = up_to_length f n ∙ omega (arith, w.within) in
      let m : drop i (up_to f n) ≡ [] = ap (λ (z : ℕ). drop z (up_to f n)) (sym e) ∙ drop-length (up_to f n) in
      ap (some_of (λ j. not (same_name k j))) (sym m) ∙ w.says
