-- What the arm `_` of a match on a head knows: the head is of another variant.
use mathlib.Core.Path.{◌≡◌}
use mathlib.Core.Bool.{Bool, true, false}
use mathlib.Core.Logic.{⊎_elim}
use mathlib.Core.List.{List, [], ◌∷◌}
use Prim.Native.Nat.{ℕ}
use borrow.Author.Tests.{eq-eqb}
use lib.Dec.{T, eqb}
use types.Run.{OneOf}
use borrow.Enum.Refused.{Among, opened}
use denote.Enum.Declared.{tag_of}
use Rattle.msgpack.specs.contracts.Head.{the_type}
use Rattle.msgpack.specs.declared.Head.{Head}
use Rattle.msgpack.specs.declared.Head.TheVariants as head

abbrev either : Bool → Bool → Bool
either true b = true
either false b = b

abbrev pub mem : List ℕ → ℕ → Bool
mem [] x = false
mem (k ∷ ks) x = either (eqb x k) (mem ks x)

left : (a b : Bool) → a ≡ true → T (either a b)
left a b e = rw e tt

right : (a b : Bool) → T b → T (either a b)
right true b t = tt
right false b t = t

-- by one test that computes at each variant
one_of : (ks : List ℕ) (x : ℕ) → OneOf ks x → T (mem ks x)
one_of [] x o = absurd o
one_of (k ∷ []) x o = left (eqb x k) false (eq-eqb x k o)
one_of (k ∷ j ∷ ks) x o =
    ⊎_elim (λ e. left (eqb x k) (mem (j ∷ ks) x) (eq-eqb x k e)) (λ r. right (eqb x k) (mem (j ∷ ks) x) (one_of (j ∷ ks) x r)) o

-- f has the answer o at each variant that is among these: said for each, as the empty truth for those that are not
module _ {B : Type 0} (ks : List ℕ) (f : Head → B) (o : B) where
  pub record Elsewhere : Type 0 where
    pub cut : T (mem ks 0) → f head.Cut ≡ o
    pub never : T (mem ks 1) → f head.Never ≡ o
    pub nil : T (mem ks 2) → (p : ℕ) → f (head.Nil p) ≡ o
    pub flag : T (mem ks 3) → (b : Bool) (p : ℕ) → f (head.Flag b p) ≡ o
    pub uint : T (mem ks 4) → (x p : ℕ) → f (head.Uint x p) ≡ o
    pub minus : T (mem ks 5) → (m p : ℕ) → f (head.Minus m p) ≡ o
    pub bin : T (mem ks 6) → (a n p : ℕ) → f (head.Bin a n p) ≡ o
    pub other : T (mem ks 7) → (p : ℕ) → f (head.Other p) ≡ o
    pub array : T (mem ks 8) → (n p : ℕ) → f (head.Array n p) ≡ o
    pub map : T (mem ks 9) → (n p : ℕ) → f (head.Map n p) ≡ o

  pub elsewhere : Elsewhere → (h : Head) → OneOf ks (tag_of the_type h) → f h ≡ o
  elsewhere e head.Cut t = e.cut (one_of ks 0 t)
  elsewhere e head.Never t = e.never (one_of ks 1 t)
  elsewhere e (head.Nil p) t = e.nil (one_of ks 2 t) p
  elsewhere e (head.Flag b p) t = e.flag (one_of ks 3 t) b p
  elsewhere e (head.Uint x p) t = e.uint (one_of ks 4 t) x p
  elsewhere e (head.Minus m p) t = e.minus (one_of ks 5 t) m p
  elsewhere e (head.Bin a n p) t = e.bin (one_of ks 6 t) a n p
  elsewhere e (head.Other p) t = e.other (one_of ks 7 t) p
  elsewhere e (head.Array n p) t = e.array (one_of ks 8 t) n p
  elsewhere e (head.Map n p) t = e.map (one_of ks 9 t) n p

  -- the same of the sealed form in which a match has it
  pub elsewhere_among : Elsewhere → (h : Head) → Among ks (tag_of the_type h) → f h ≡ o
  elsewhere_among e h t = elsewhere e h (opened t)
