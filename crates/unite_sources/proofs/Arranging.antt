-- Things arranged one by one, those without views set aside. Assumes nothing.
use Rattle.std.specs.Prelude.{None, Option, Some}
use Prim.Native.Nat.{ℕ, ◌+◌, ◌*◌, ◌≤◌, ◌<◌}
use mathlib.Core.Path.{◌≡◌, refl, sym, ap, ◌∙◌}
use mathlib.Core.List.{List, [], ◌∷◌, ◌++◌, append_assoc, append-nil}
use native.Mathlib.Omega.{arith}
use native.Mathlib.Numerals.{add-one}
use Rattle.keys.specs.Pool.{edges_of}
use Rattle.keys.specs.declared.Range.{Range}
use Rattle.tables.specs.Layout.{up_to}
use Rattle.records.specs.Model.{View}
use Rattle.unite_ranges.specs.Bounding.{Bounding, bounding_of}
use Rattle.unite_ranges.specs.Arranged.{Ranged, entered, arranged_from, arranged}
use Rattle.unite_ranges.specs.Rows.{bounded_in, ranged_in}
use Rattle.unite_sources.specs.Used.{ranged_as, ranged_by}

pub arranged_append : {A : Type 0} (done xs ys : List (Ranged A)) → arranged_from done (xs ++ ys) ≡ arranged_from (arranged_from done xs) ys
unfolding arranged_from
arranged_append done [] ys = refl
arranged_append done (x ∷ xs) ys = arranged_append (entered x done) xs ys

module _ {A : Type 0} (views : A → List View) where
  pub ranged_append : (xs ys : List A) → ranged_by views (xs ++ ys) ≡ ranged_by views xs ++ ranged_by views ys
  unfolding ranged_by
  ranged_append [] ys = refl
  ranged_append (x ∷ xs) ys = rw (ranged_append xs ys) (sym (append_assoc (ranged_as x (bounding_of (views x))) (ranged_by views xs) (ranged_by views ys)))

  pub ranged_one : (x : A) → ranged_by views (x ∷ []) ≡ ranged_as x (bounding_of (views x))
  unfolding ranged_by
  ranged_one x = append-nil (ranged_as x (bounding_of (views x)))

-- ---- one that has a range, or none
module _ (pool rows : List ℕ) (k what : ℕ) (q : Option Range) where
  pub enter_none : q ≡ None → ranged_in pool rows k ≡ arranged_from (ranged_in pool rows k) (ranged_as what (bounded_in pool q))
  unfolding arranged_from
  enter_none e = rw e

  pub enter_spans : (r : Range) (xs : List (Ranged ℕ)) → q ≡ Some r → xs ≡ entered (record { what = what; range = edges_of pool r }) (ranged_in pool rows k)
      → xs ≡ arranged_from (ranged_in pool rows k) (ranged_as what (bounded_in pool q))
  unfolding arranged_from
  enter_spans r xs e h = rw e h

-- whichever way the range was found
pub enter_as : (done xs : List (Ranged ℕ)) (b : ℕ) (p q : Bounding) → p ≡ q → xs ≡ arranged_from done (ranged_as b p) → xs ≡ arranged_from done (ranged_as b q)
enter_as done xs b p q e h = h ∙ ap (λ z. arranged_from done (ranged_as b z)) e

pub ruleset enters = (enter_none, enter_spans, enter_as)

-- ---- a loop: the first i of n are arranged, k of them with views, in a table of `len` words
pub record Arranging {A : Type 0} (views : A → List View) (f : ℕ → A) (n len₀ : ℕ) (rows : List (Ranged A)) (len k i : ℕ) : Type 0 where
  pub within : i ≤ n
  pub few : k ≤ i
  pub room : n * 7 ≤ len
  pub long : len ≡ len₀
  pub is : rows ≡ arranged (ranged_by views (up_to f i))

module _ {A : Type 0} (views : A → List View) (f : ℕ → A) (n : ℕ) where
  pub arranging_none : (len : ℕ) (rows : List (Ranged A)) → n * 7 ≤ len → rows ≡ [] → Arranging views f n len rows len 0 0
  unfolding arranged_from ranged_by
  arranging_none len rows h e = record { within = omega arith; few = omega arith; room = h; long = refl; is = e }

  module _ {len₀ : ℕ} {rows : List (Ranged A)} {len k i : ℕ} (w : Arranging views f n len₀ rows len k i) where
    pub arranging_room : i < n → (k + 1) * 7 ≤ len
    arranging_room h = omega (arith, w.few, w.room)

    pub arranging_more : (xs : List (Ranged A)) (l m : ℕ) → i < n → xs ≡ arranged_from rows (ranged_as (f i) (bounding_of (views (f i)))) → m ≤ k + 1 → l ≡ len → Arranging views f n len₀ xs l m (i + 1)
    arranging_more xs l m h e few same =
        record {
          within = omega arith;
          few = omega (arith, w.few);
          room = rw same w.room;
          long = same ∙ w.long;
          is =
              rw (add-one i)
              (e
              ∙ ap (λ (z : List (Ranged A)). arranged_from z (ranged_as (f i) (bounding_of (views (f i))))) w.is
              ∙ sym (arranged_append [] (ranged_by views (up_to f i)) (ranged_as (f i) (bounding_of (views (f i)))))
              ∙ ap (λ (z : List (Ranged A)). arranged (ranged_by views (up_to f i) ++ z)) (sym (ranged_one views (f i)))
              ∙ ap arranged (sym (ranged_append views (up_to f i) (f i ∷ []))));
        }

    pub arranging_all : n ≤ i → rows ≡ arranged (ranged_by views (up_to f n))
    arranging_all h = let e : i ≡ n = omega (arith, w.within) in rw e at w.is

pub rows_none : (pool t : List ℕ) → ranged_in pool t 0 ≡ []
unfolding ranged_in
rows_none pool t = refl
