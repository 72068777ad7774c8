-- Arranging one more, and arranging names in place of things: it looks at the ranges alone. Assumes nothing.
use mathlib.Core.Path.{◌≡◌, refl, ap, ◌∙◌}
use mathlib.Core.Bool.{Bool, true, false, ◌||◌}
use mathlib.Core.List.{List, [], ◌∷◌, ◌++◌, map}
use Prim.Native.Nat.{ℕ, zero, suc, ◌*◌}
use Rattle.keys.specs.Pick.{pick}
use Rattle.keys.specs.Key.{is_less}
use Rattle.keys.specs.Meet.{start_order}
use Rattle.tables.specs.Layout.{up_to}
use Rattle.records.specs.Row.{at}
use Rattle.unite_ranges.specs.Rows.{ranged_at, ranged_in}
use Rattle.unite_ranges.specs.Arranged.{Ranged, entered, arranged_from, arranged, overlap, some_overlap, whats}

-- one more is entered among those before it
from_more : {A : Type 0} (done xs : List (Ranged A)) (x : Ranged A) → arranged_from done (xs ++ (x ∷ [])) ≡ entered x (arranged_from done xs)
unfolding arranged_from
from_more done [] x = refl
from_more done (y ∷ ys) x = from_more (entered y done) ys x

pub arranged_more : {A : Type 0} (xs : List (Ranged A)) (x : Ranged A) → arranged (xs ++ (x ∷ [])) ≡ entered x (arranged xs)
arranged_more xs x = from_more [] xs x

-- ---- the first words of rows

whats_more : {A : Type 0} (xs : List (Ranged A)) (x : Ranged A) → whats (xs ++ (x ∷ [])) ≡ whats xs ++ (x.what ∷ [])
unfolding whats
whats_more [] x = refl
whats_more (y ∷ ys) x = ap (λ l. y.what ∷ l) (whats_more ys x)

pub whats_rows : (pool t : List ℕ) (n : ℕ) → whats (ranged_in pool t n) ≡ up_to (λ i. at t (i * 7)) n
unfolding ranged_in whats
whats_rows pool t zero = refl
whats_rows pool t (suc n) = whats_more (up_to (ranged_at pool t) n) (ranged_at pool t n) ∙ ap (λ l. l ++ (at t (n * 7) ∷ [])) (whats_rows pool t n)

-- ---- other names

module _ {A B : Type 0} (f : A → B) where
  -- another thing with the same range
  abbrev pub renamed : Ranged A → Ranged B
  renamed x = record { what = f x.what; range = x.range }

  pub entered_renamed : (x : Ranged A) (ys : List (Ranged A)) → entered (renamed x) (map renamed ys) ≡ map renamed (entered x ys)
  unfolding entered
  entered_renamed x [] = refl
  entered_renamed x (y ∷ ys) = go (is_less (start_order x.range.start y.range.start)) (entered_renamed x ys)
    where
      go : (b : Bool) → entered (renamed x) (map renamed ys) ≡ map renamed (entered x ys)
          → pick b (renamed x ∷ renamed y ∷ map renamed ys) (renamed y ∷ entered (renamed x) (map renamed ys)) ≡ map renamed (pick b (x ∷ y ∷ ys) (y ∷ entered x ys))
      go true h = refl
      go false h = ap (λ l. renamed y ∷ l) h

  pub from_renamed : (done xs : List (Ranged A)) → arranged_from (map renamed done) (map renamed xs) ≡ map renamed (arranged_from done xs)
  unfolding arranged_from
  from_renamed done [] = refl
  from_renamed done (x ∷ xs) = ap (λ l. arranged_from l (map renamed xs)) (entered_renamed x done) ∙ from_renamed (entered x done) xs

  pub arranged_renamed : (xs : List (Ranged A)) → arranged (map renamed xs) ≡ map renamed (arranged xs)
  arranged_renamed xs = from_renamed [] xs

  pub overlap_renamed : (xs : List (Ranged A)) → some_overlap (map renamed xs) ≡ some_overlap xs
  unfolding some_overlap
  overlap_renamed [] = refl
  overlap_renamed (x ∷ []) = refl
  overlap_renamed (x ∷ y ∷ zs) = ap (λ (b : Bool). overlap x.range y.range || b) (overlap_renamed (y ∷ zs))

  pub whats_renamed : (xs : List (Ranged A)) → whats (map renamed xs) ≡ map f (whats xs)
  unfolding whats
  whats_renamed [] = refl
  whats_renamed (x ∷ xs) = ap (λ l. f x.what ∷ l) (whats_renamed xs)
