-- A value ends behind its start, and within the bytes.
use Rattle.std.specs.Prelude.{Err, Ok, Result}
use mathlib.Core.Path.{◌≡◌, refl}
use mathlib.Core.Bool.{Bool, true, false}
use mathlib.Core.List.{List, [], ◌∷◌}
use Prim.Native.Nat.{ℕ, zero, suc, ◌+◌, ◌-◌, ◌/◌, ◌≤◌, ◌<◌}
use native.Mathlib.Omega.{arith}
use borrow.Author.Tests.{leb-true, ltb-true, ltb-false}
use lib.Dec.{leb, ltb}
use lib.ListN.{length, drop, length-drop, drop_of_length-le}
use native.Mathlib.Nat.{le_of_lt}
use mathlib.Core.Logic.{◌⊎◌, inl, inr, ⊎_elim}
use Rattle.keys.specs.Pick.{pick}
use Rattle.msgpack.proofs.Skips.{value_flat}
use Rattle.msgpack.specs.Form.{form_of}
use Rattle.msgpack.specs.Head.{arg_of, kind_head, head_by, head_of}
use Rattle.msgpack.specs.Skip.{after, many_of, skip_head, value_of}
use Rattle.msgpack.specs.declared.Kind.{Kind}
use Rattle.msgpack.specs.declared.Kind.TheVariants as kind
use Rattle.msgpack.specs.declared.Form.{Form}
use Rattle.msgpack.specs.declared.Head.{Head}
use Rattle.msgpack.specs.declared.Head.TheVariants as head

-- what a head says of places: after `at`, in order, and at most `end`
abbrev pub Ahead : ℕ → ℕ → Head → Type 0
Ahead at end head.Cut = Unit {0}
Ahead at end head.Never = Unit {0}
Ahead at end (head.Nil p) = (at < p) × (p ≤ end)
Ahead at end (head.Flag b p) = (at < p) × (p ≤ end)
Ahead at end (head.Uint x p) = (at < p) × (p ≤ end)
Ahead at end (head.Minus x p) = (at < p) × (p ≤ end)
Ahead at end (head.Bin f n p) = (at < f) × (p ≡ f + n) × (p ≤ end)
Ahead at end (head.Other p) = (at < p) × (p ≤ end)
Ahead at end (head.Array n p) = (at < p) × (p ≤ end)
Ahead at end (head.Map n p) = (at < p) × (p ≤ end)

module _ (at end next left : ℕ) (h : at < next) (l : next + left ≤ end) where
  both : (t : Bool) (a b : Head) → Ahead at end a → Ahead at end b → Ahead at end (pick t a b)
  both true a b p q = p
  both false a b p q = q

  whole : (x : ℕ) (t : Bool) → leb x left ≡ t → Ahead at end (pick t (head.Bin next x (next + x)) head.Cut) × Ahead at end (pick t (head.Other (next + x)) head.Cut)
  whole x true e = let k : x ≤ left = leb-true x left e in omega arith
  whole x false e = (tt, tt)

  typed : (x : ℕ) (t : Bool) → ltb x left ≡ t → Ahead at end (pick t (head.Other (next + 1 + x)) head.Cut)
  typed x true e = let k : x < left = ltb-true x left e in omega arith
  typed x false e = tt

  kind_ahead : (k : Kind) (n x : ℕ) → Ahead at end (kind_head k n x next left)
  unfolding kind_head
  kind_ahead kind.Never n x = tt
  kind_ahead kind.Nil n x = omega arith
  kind_ahead kind.False n x = omega arith
  kind_ahead kind.True n x = omega arith
  kind_ahead kind.Uint n x = omega arith
  kind_ahead kind.Minus n x = omega arith
  kind_ahead kind.Sint n x = both (leb x (n / 2)) (head.Uint x next) (head.Minus (n - x) next) (omega arith) (omega arith)
  kind_ahead kind.Bin n x = (whole x (leb x left) refl).0
  kind_ahead kind.Str n x = (whole x (leb x left) refl).1
  kind_ahead kind.Float n x = (whole x (leb x left) refl).1
  kind_ahead kind.Ext n x = typed x (ltb x left) refl
  kind_ahead kind.Array n x = omega arith
  kind_ahead kind.Map n x = omega arith

by_form : (at end : ℕ) (f : Form) (t : List ℕ) → at + suc (length t) ≤ end → Ahead at end (head_by at f t)
unfolding head_by
by_form at end f t h = go (leb f.1 (length t)) refl
  where
    go : (b : Bool) → leb f.1 (length t) ≡ b → Ahead at end (pick b (kind_head f.0 f.2 (arg_of f.1 f.2 t) (at + 1 + f.1) (length t - f.1)) head.Cut)
    go true e =
        let k : f.1 ≤ length t = leb-true f.1 (length t) e in
        kind_ahead at end (at + 1 + f.1) (length t - f.1) (omega arith) (omega arith) f.0 f.2 (arg_of f.1 f.2 t)
    go false e = tt

pub head_ahead : (at end : ℕ) (l : List ℕ) → at + length l ≤ end → Ahead at end (head_of at l)
unfolding head_of
head_ahead at end [] h = tt
head_ahead at end (b ∷ t) h = by_form at end (form_of b) t h

-- what a skip says of places
abbrev pub Within : ℕ → ℕ → Result ℕ ℕ → Type 0
Within at end (Ok p) = (at ≤ p) × (p ≤ end)
Within at end (Err q) = Unit {0}

later : (a b end : ℕ) (r : Result ℕ ℕ) → a ≤ b → Within b end r → Within a end r
later a b end (Ok p) h w = (omega arith, w.1)
later a b end (Err q) h w = tt

on : (at end : ℕ) (r : Result ℕ ℕ) (k : ℕ → Result ℕ ℕ) → Within at end r → ((p : ℕ) → p ≤ end → Within p end (k p)) → Within at end (after r k)
on at end (Ok p) k w f = later at p end (k p) w.0 (f p w.1)
on at end (Err q) k w f = tt

pub many_within : (one : ℕ → Result ℕ ℕ) (end : ℕ) → ((p : ℕ) → p ≤ end → Within p end (one p)) → (n at : ℕ) → at ≤ end → Within at end (many_of one n at)
unfolding many_of
many_within one end f zero at h = omega arith
many_within one end f (suc n) at h = on at end (one at) (λ p. many_of one n p) (f at h) (λ p l. many_within one end f n p l)

skip_within : (at end : ℕ) (g : ℕ → ℕ → Result ℕ ℕ) → ((n p : ℕ) → p ≤ end → Within p end (g n p)) → (h : Head) → Ahead at end h → Within (suc at) end (skip_head at g h)
unfolding skip_head
skip_within at end g f head.Cut a = tt
skip_within at end g f head.Never a = tt
skip_within at end g f (head.Nil p) a = a
skip_within at end g f (head.Flag b p) a = a
skip_within at end g f (head.Uint x p) a = a
skip_within at end g f (head.Minus x p) a = a
skip_within at end g f (head.Bin s n p) a = omega arith
skip_within at end g f (head.Other p) a = a
skip_within at end g f (head.Array n p) a = later (suc at) p end (g n p) a.0 (f n p a.1)
skip_within at end g f (head.Map n p) a = later (suc at) p end (after (g n p) (λ q. g n q)) a.0 (on p end (g n p) (λ q. g n q) (f n p a.1) (λ q l. f n q l))

-- A value takes at least one byte, and ends within the bytes
pub value_within : (s : List ℕ) (room at : ℕ) → at ≤ length s → Within (suc at) (length s) (value_of s room at)
unfolding value_of
value_within s zero at h =
    skip_within at (length s) (λ n p. Err at) (λ n p l. tt) (head_of at (drop at s)) (head_ahead at (length s) (drop at s) (simp length-drop (omega arith)))
value_within s (suc r) at h =
    skip_within at (length s) (λ n p. many_of (λ p. value_of s r p) n p)
    (λ n p l. many_within (λ p. value_of s r p) (length s) (λ q k. later q (suc q) (length s) (value_of s r q) (omega arith) (value_within s r q k)) n p l)
    (head_of at (drop at s)) (head_ahead at (length s) (drop at s) (simp length-drop (omega arith)))

pub split : (a b : ℕ) → (a < b) ⊎ (b ≤ a)
split a b = go (ltb a b) refl
  where
    go : (t : Bool) → ltb a b ≡ t → (a < b) ⊎ (b ≤ a)
    go true e = inl (ltb-true a b e)
    go false e = inr (ltb-false a b e)

-- past the end nothing is skipped
beyond : (s : List ℕ) (room p : ℕ) → length s ≤ p → value_of s room p ≡ Err p
unfolding head_of skip_head
beyond s room p h = value_flat s room p head.Cut head.Cut (Err p) (rw (drop_of_length-le s h)) refl (λ g. refl)

-- of a value that was skipped, from wherever
pub past_within : (s : List ℕ) (room p q : ℕ) → value_of s room p ≡ Ok q → (p < q) × (q ≤ length s)
past_within s room p q e =
    ⊎_elim (λ h. rw e at (value_within s room p (le_of_lt h)))
    (λ h. let b = beyond s room p h in let z : ◌≡◌ {A = ℕ} 0 1 = cc in absurd (omega arith))
    (split p (length s))

-- a head, from wherever
pub head_within : (s : List ℕ) (at : ℕ) → Ahead at (length s) (head_of at (drop at s))
unfolding head_of
head_within s at =
    ⊎_elim (λ (h : at < length s). head_ahead at (length s) (drop at s) (simp length-drop (omega arith)))
    (λ (h : length s ≤ at). rw (drop_of_length-le s h) tt)
    (split at (length s))
