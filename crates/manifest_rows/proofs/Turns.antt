-- Lists read one by one: a loop's turns. Assumes nothing.
use Rattle.std.specs.Prelude.{Err, Ok, Result}
use Rattle.std.specs.Result.{IsErrAnd}
use Prim.Native.Nat.{ℕ, zero, suc, ◌+◌, ◌-◌, ◌≤◌, ◌<◌}
use mathlib.Core.Path.{◌≡◌, refl, ap, ◌∙◌}
use mathlib.Core.List.{List, [], ◌∷◌, ◌++◌}
use native.Mathlib.Omega.{arith}
use native.Mathlib.Nat.{zero-add, suc-add}
use native.Mathlib.Numerals.{add-one}
use lib.ListN.{length, length-append}
use Rattle.manifest_values.specs.Read.{Got, is, wrong, on, many}
use Rattle.manifest_rows.specs.Stored.{FilledIs, Filled, Steps, none, more, Two, Moves, TreeMoves, Three, SegmentMoves}
use Rattle.records.specs.Model.{Tree}
use Rattle.records.specs.declared.TreeRow.{TreeRow}
use Rattle.manifest_rows.specs.declared.Cursor.{Cursor}

-- ---- an answer that passes a wrong place on

module _ {S A : Type 0} (Step : A → S → S → Type 0) (Under : S → ℕ → Type 0) (g : Got A) (σ σ' : S) where
  pub filled_not : (r : Result ℕ ℕ) (q : ℕ) → IsErrAnd r (λ y. y ≡ q) → g ≡ wrong q → Filled Step Under g σ σ' r
  filled_not (Ok p) q h e = absurd h
  filled_not (Err y) q h e = rw h e

module _ {A : Type 0} (Step : A → Two → Two → Type 0) (g : Got A) (σ : Two) (after : Cursor → Two) where
  pub moves_not : (r : Result (ℕ × Cursor) ℕ) (q : ℕ) → IsErrAnd r (λ y. y ≡ q) → g ≡ wrong q → Moves Step g σ after r
  moves_not (Ok x) q h e = absurd h
  moves_not (Err y) q h e = rw h e

module _ (s : List ℕ) (g : Got Tree) (σ : Two) (after : Cursor → Two) where
  pub tree_moves_not : (r : Result (TreeRow × ℕ × Cursor) ℕ) (q : ℕ) → IsErrAnd r (λ y. y ≡ q) → g ≡ wrong q → TreeMoves s g σ after r
  tree_moves_not (Ok x) q h e = absurd h
  tree_moves_not (Err y) q h e = rw h e

module _ {A : Type 0} (Step : A → Three → Three → Type 0) (g : Got A) (σ : Three) (after : Cursor → Three) where
  pub segment_moves_not : (r : Result (ℕ × Cursor) ℕ) (q : ℕ) → IsErrAnd r (λ y. y ≡ q) → g ≡ wrong q → SegmentMoves Step g σ after r
  segment_moves_not (Ok x) q h e = absurd h
  segment_moves_not (Err y) q h e = rw h e

-- ---- one more at the end

module _ {A : Type 0} (one : ℕ → Got A) where
  snoc : (k at : ℕ) → many one (suc k) at ≡ on (many one k at) λ xs p. on (one p) λ x q. is (xs ++ (x ∷ [])) q
  unfolding many
  snoc zero at = by (one at)
    where
      by : (g : Got A) → on g (λ x p. on (is [] p) λ xs q. is (x ∷ xs) q) ≡ on g (λ x q. is (x ∷ []) q)
      by (is x p) = refl
      by (wrong q) = refl
  snoc (suc k) at = by (one at) (λ p. snoc k p)
    where
      in_on : (x : A) (g : Got (List A)) → on (on g λ xs p. on (one p) λ y q. is (xs ++ (y ∷ [])) q) (λ xs q. is (x ∷ xs) q) ≡ on (on g λ xs q. is (x ∷ xs) q) (λ xs p. on (one p) λ y q. is (xs ++ (y ∷ [])) q)
      in_on x (is xs p) = at_end (one p)
        where
          at_end : (h : Got A) → on (on h λ y q. is (xs ++ (y ∷ [])) q) (λ ys q. is (x ∷ ys) q) ≡ on h (λ y q. is (x ∷ (xs ++ (y ∷ []))) q)
          at_end (is y q) = refl
          at_end (wrong q) = refl
      in_on x (wrong q) = refl

      by : (g : Got A) → ((p : ℕ) → many one (suc k) p ≡ on (many one k p) λ xs p. on (one p) λ x q. is (xs ++ (x ∷ [])) q) → on g (λ x p. on (many one (suc k) p) λ xs q. is (x ∷ xs) q) ≡ on (on g λ x p. on (many one k p) λ xs q. is (x ∷ xs) q) (λ xs p. on (one p) λ y q. is (xs ++ (y ∷ [])) q)
      by (is x p) h = ap (λ (z : Got (List A)). on z (λ xs q. is (x ∷ xs) q)) (h p) ∙ in_on x (many one k p)
      by (wrong q) h = refl

  many_is : (k at : ℕ) (xs : List A) (p : ℕ) (x : A) (q : ℕ) → many one k at ≡ is xs p → one p ≡ is x q → many one (suc k) at ≡ is (xs ++ (x ∷ [])) q
  many_is k at xs p x q e f =
      snoc k at ∙ ap (λ (z : Got (List A)). on z (λ xs p. on (one p) λ x q. is (xs ++ (x ∷ [])) q)) e ∙ ap (λ (z : Got A). on z (λ x q. is (xs ++ (x ∷ [])) q)) f

  many_wrong : (k at : ℕ) (xs : List A) (p q : ℕ) → many one k at ≡ is xs p → one p ≡ wrong q → many one (suc k) at ≡ wrong q
  many_wrong k at xs p q e f =
      snoc k at ∙ ap (λ (z : Got (List A)). on z (λ xs p. on (one p) λ x q. is (xs ++ (x ∷ [])) q)) e ∙ ap (λ (z : Got A). on z (λ x q. is (xs ++ (x ∷ [])) q)) f

  -- what is wrong stays wrong
  wrong_on : (d k at q : ℕ) → many one k at ≡ wrong q → many one (d + k) at ≡ wrong q
  wrong_on zero k at q e = rw (zero-add k) e
  wrong_on (suc d) k at q e =
      rw (suc-add d k) (snoc (d + k) at ∙ ap (λ (z : Got (List A)). on z (λ xs p. on (one p) λ x q. is (xs ++ (x ∷ [])) q)) (wrong_on d k at q e))

  -- as many as were asked for
  pub many_length : (n at : ℕ) (xs : List A) (p : ℕ) → many one n at ≡ is xs p → length xs ≡ n
  unfolding many
  many_length zero at xs p e = let z : xs ≡ [] = cc in rw z
  many_length (suc n) at xs p e = by (one at) (λ q ys r f. many_length n q ys r f) e
    where
      tail : (x : A) (g : Got (List A)) → ((ys : List A) (q : ℕ) → g ≡ is ys q → length ys ≡ n) → on g (λ ys q. is (x ∷ ys) q) ≡ is xs p → length xs ≡ suc n
      tail x (is ys q) h e = let z : xs ≡ x ∷ ys = cc in rw z (ap suc (h ys q refl))
      tail x (wrong q) h e = let z : ◌≡◌ {A = ℕ} 0 1 = cc in absurd (omega arith)

      by : (g : Got A) → ((q : ℕ) (ys : List A) (r : ℕ) → many one n q ≡ is ys r → length ys ≡ n) → on g (λ x p. on (many one n p) λ ys q. is (x ∷ ys) q) ≡ is xs p → length xs ≡ suc n
      by (is x q) h e = tail x (many one n q) (λ ys r f. h q ys r f) e
      by (wrong q) h e = let z : ◌≡◌ {A = ℕ} 0 1 = cc in absurd (omega arith)

-- ---- a loop over n values from `at` on: those read, the place and the tables now

pub record Turn {S A : Type 0} (Step : A → S → S → Type 0) (Under : S → ℕ → Type 0) (one : ℕ → Got A) (at n : ℕ) (σ₀ : S) (p k : ℕ) (σ : S) : Type 0 where
  pub small : k ≤ n
  pub so_far : FilledIs (Steps Step) Under (many one k at) σ₀ σ p

module _ {S A : Type 0} (Step : A → S → S → Type 0) (Under : S → ℕ → Type 0) (one : ℕ → Got A) (at n : ℕ) (σ₀ : S) where
  pub turn_none : Under σ₀ at → Turn Step Under one at n σ₀ at 0 σ₀
  unfolding many
  turn_none u = record { small = omega arith; so_far = record { value = []; read = refl; step = none; under = u } }

  module _ (p k : ℕ) (σ : S) (t : Turn Step Under one at n σ₀ p k σ) where
    pub turn_more : (σ' : S) (q : ℕ) → k < n → FilledIs Step Under (one p) σ σ' q → Turn Step Under one at n σ₀ q (k + 1) σ'
    turn_more σ' q h f =
        rw add-one
        (record {
          small = omega arith;
          so_far =
              record {
                value = t.so_far.value ++ (f.value ∷ []);
                read = many_is one k at t.so_far.value p f.value q t.so_far.read f.read;
                step = more t.so_far.step f.step;
                under = f.under;
              };
        })

    pub turn_wrong : (q : ℕ) → k < n → one p ≡ wrong q → many one n at ≡ wrong q
    turn_wrong q h e =
        let m : n ≡ n - suc k + suc k = omega arith in
        ap (λ (i : ℕ). many one i at) m ∙ wrong_on one (n - suc k) (suc k) at q (many_wrong one k at t.so_far.value p q t.so_far.read e)

    pub turn_all : n ≤ k → FilledIs (Steps Step) Under (many one n at) σ₀ σ p
    turn_all h = let z : k ≡ n = omega (arith, t.small) in rw z at t.so_far

pub ruleset turns = (turn_none, turn_more, turn_wrong, turn_all, filled_not, moves_not, segment_moves_not)

-- each value takes a row
pub steps_next : {S A : Type 0} (Step : A → S → S → Type 0) (next : S → ℕ) → ((x : A) (σ σ' : S) → Step x σ σ' → next σ' ≡ next σ + 1)
    → (xs : List A) (σ σ' : S) → Steps Step xs σ σ' → next σ' ≡ next σ + length xs
steps_next Step next f xs σ σ' none = omega arith
steps_next Step next f xs σ σ' (more {xs = ys} {x = y} {τ = τ} s t) =
    let a = steps_next Step next f ys σ τ s in
    let b = f y τ σ' t in
    rw (length-append ys (y ∷ [])) (omega arith)
