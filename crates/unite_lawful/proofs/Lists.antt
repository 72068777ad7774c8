-- Tests over lists: of all, of some. Assumes nothing.
use mathlib.Core.Path.{◌≡◌, refl, sym}
use mathlib.Core.Bool.{Bool, true, false, ◌||◌}
use mathlib.Core.List.{List, [], ◌∷◌, ◌++◌}
use Rattle.measure.specs.Tests.{all_of}
use Rattle.merge.specs.Merge.{some_of}
use Rattle.segments.proofs.Places.{and_both}
use Rattle.merge.proofs.Keeping.{both_and}

pub or_apart : (a b c : Bool) → ((a || b) || c) ≡ (a || (b || c))
or_apart true b c = refl
or_apart false b c = refl

pub or_swap : (a b c : Bool) → (a || (b || c)) ≡ (b || (a || c))
or_swap true true c = refl
or_swap true false c = refl
or_swap false b c = refl

pub or_twice : (a b : Bool) → (a || b) ≡ (a || (a || b))
or_twice true b = refl
or_twice false b = refl

pub or_none : (a : Bool) → (a || false) ≡ a
or_none true = refl
or_none false = refl

pub or_true : (a : Bool) → (a || true) ≡ true
or_true true = refl
or_true false = refl

module _ {A : Type 0} where
  pub all_on : (p q : A → Bool) → ((x : A) → p x ≡ true → q x ≡ true) → (xs : List A) → all_of p xs ≡ true → all_of q xs ≡ true
  all_on p q f [] e = refl
  all_on p q f (x ∷ xs) e = let w = and_both (p x) (all_of p xs) e in both_and (f x w.0) (all_on p q f xs w.1)

  pub some_append : (p : A → Bool) (xs ys : List A) → some_of p (xs ++ ys) ≡ (some_of p xs || some_of p ys)
  some_append p [] ys = refl
  some_append p (x ∷ xs) ys = rw (some_append p xs ys) (sym (or_apart (p x) (some_of p xs) (some_of p ys)))

  pub some_is : (p q : A → Bool) → ((x : A) → p x ≡ q x) → (xs : List A) → some_of p xs ≡ some_of q xs
  some_is p q f [] = refl
  some_is p q f (x ∷ xs) = rw (f x, some_is p q f xs)
