-- The equations of skipping, as the code meets them: a count that is not 0, a room that is not 0.
--
use Rattle.std.specs.Prelude.{Err, Ok, Result}
use mathlib.Core.Path.{◌≡◌, refl, sym, ap, ◌∙◌}
use mathlib.Core.List.{List}
use Prim.Native.Nat.{ℕ, zero, suc, ◌-◌, ◌≤◌, ◌<◌}
use native.Mathlib.Nat.{not-suc-le-zero}
use native.Mathlib.Omega.{arith}
use lib.ListN.{drop}
use Rattle.msgpack.specs.Head.{head_of}
use Rattle.msgpack.specs.Skip.{after, many_of, skip_head, value_of}
use Rattle.msgpack.specs.declared.Head.{Head}
use Rattle.msgpack.specs.declared.Head.TheVariants as head

module _ (one : ℕ → Result ℕ ℕ) where
  pub many_end : (n p : ℕ) → n ≤ 0 → many_of one n p ≡ Ok p
  unfolding many_of
  many_end zero p h = refl
  many_end (suc n) p h = absurd (not-suc-le-zero h)

  pub many_more : (n p : ℕ) → 0 < n → many_of one n p ≡ after (one p) (λ q. many_of one (n - 1) q)
  unfolding many_of
  many_more zero p h = absurd (not-suc-le-zero h)
  many_more (suc n) p h =
      let e : suc n - 1 ≡ n = omega arith in
      ap (λ (k : ℕ). after (one p) (λ q. many_of one k q)) (sym e)

  pub many_past : (n p q : ℕ) → 0 < n → one p ≡ Ok q → many_of one n p ≡ many_of one (n - 1) q
  many_past n p q h e = many_more n p h ∙ ap (λ (r : Result ℕ ℕ). after r (λ q. many_of one (n - 1) q)) e

  pub many_bad : (n p q : ℕ) → 0 < n → one p ≡ Err q → many_of one n p ≡ Err q
  many_bad n p q h e = many_more n p h ∙ ap (λ (r : Result ℕ ℕ). after r (λ q. many_of one (n - 1) q)) e

module _ (s : List ℕ) (room at : ℕ) (h h' : Head) (e : h ≡ head_of at (drop at s)) (e' : h ≡ h') where
  -- the head is as it is
  is : head_of at (drop at s) ≡ h'
  is = sym e ∙ e'

  -- no room for a group
  pub value_shut : room ≡ 0 → value_of s room at ≡ skip_head at (λ n next. Err at) h'
  unfolding value_of
  value_shut z = rw z (ap (λ (k : Head). skip_head at (λ n next. Err at) k) is)

  -- room for a group
  pub value_open : (room ≡ 0 → ⊥) → value_of s room at ≡ skip_head at (λ n next. many_of (value_of s (room - 1)) n next) h'
  unfolding value_of
  value_open z =
      let e : room ≡ suc (room - 1) = omega arith in
      ap (λ (r : ℕ). value_of s r at) e ∙ ap (λ (k : Head). skip_head at (λ n next. many_of (value_of s (room - 1)) n next) k) is

-- a map: once its first n values were skipped with the answer r, as many again
pub value_map : (s : List ℕ) (room at : ℕ) (h : Head) (n next : ℕ) (r r' : Result ℕ ℕ) → h ≡ head_of at (drop at s) → h ≡ head.Map n next → (room ≡ 0 → ⊥)
    → r ≡ many_of (value_of s (room - 1)) n next → r ≡ r' → value_of s room at ≡ after r' (λ p. many_of (value_of s (room - 1)) n p)
unfolding skip_head
value_map s room at h n next r r' e e' z f f' =
    value_open s room at h (head.Map n next) e e' z ∙ ap (λ (k : Result ℕ ℕ). after k (λ p. many_of (value_of s (room - 1)) n p)) (sym f ∙ f')

-- no group: the room does not matter
pub value_flat : (s : List ℕ) (room at : ℕ) (h h' : Head) (r : Result ℕ ℕ) → h ≡ head_of at (drop at s) → h ≡ h'
    → ((g : ℕ → ℕ → Result ℕ ℕ) → skip_head at g h' ≡ r) → value_of s room at ≡ r
unfolding value_of
value_flat s zero at h h' r e e' f = ap (λ (k : Head). skip_head at (λ n next. Err at) k) (sym e ∙ e') ∙ f _
value_flat s (suc m) at h h' r e e' f = ap (λ (k : Head). skip_head at (λ n next. many_of (λ p. value_of s m p) n next) k) (sym e ∙ e') ∙ f _
