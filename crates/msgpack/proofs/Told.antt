-- What is known of what was read: the next place is behind its own and within the bytes, the number within its range, and what is
-- wrong is wrong at its start.
use Rattle.std.specs.Prelude.{Err, Ok, Result}
use mathlib.Core.Path.{◌≡◌, refl}
use mathlib.Core.Bool.{Bool, true, false}
use mathlib.Core.List.{List}
use Prim.Native.Nat.{ℕ, ◌+◌, ◌≤◌, ◌<◌}
use borrow.Author.Tests.{leb-true}
use lib.Dec.{leb}
use lib.ListN.{length, drop}
use Rattle.keys.specs.Pick.{pick}
use Rattle.msgpack.specs.Head.{head_of}
use Rattle.msgpack.specs.Read.{uint_by, uint_at, bin_by, bin_at, group_by, group_at}
use Rattle.msgpack.specs.declared.Head.{Head}
use Rattle.msgpack.specs.declared.Head.TheVariants as head
use Rattle.msgpack.proofs.Ahead.{Ahead, head_within}

-- behind `at`, and at most `end`
abbrev pub Next : ℕ → ℕ → ℕ → Type 0
Next at end p = (at < p) × (p ≤ end)

-- what passed a test, with the fact that the test tells; or what is wrong at `at`
module _ {B : Type 0} (P : B → Type 0) (good bad : B) (x y : ℕ) where
  tested : (x ≤ y → P good) → P bad → P (pick (leb x y) good bad)
  tested g b = go (leb x y) refl
    where
      go : (t : Bool) → leb x y ≡ t → P (pick t good bad)
      go true e = g (leb-true x y e)
      go false e = b

abbrev pub UintTold : ℕ → ℕ → ℕ → Result (ℕ × ℕ) ℕ → Type 0
UintTold at end most (Ok (x, p)) = (x ≤ most) × Next at end p
UintTold at end most (Err q) = q ≡ at

uint_by_lem : (at end most : ℕ) (h : Head) → Ahead at end h → UintTold at end most (uint_by at most h)
unfolding uint_by
uint_by_lem at end most head.Cut a = refl
uint_by_lem at end most head.Never a = refl
uint_by_lem at end most (head.Nil p) a = refl
uint_by_lem at end most (head.Flag b p) a = refl
uint_by_lem at end most (head.Uint x p) a = tested (UintTold at end most) (Ok (x, p)) (Err at) x most (λ k. (k, a)) refl
uint_by_lem at end most (head.Minus m p) a = refl
uint_by_lem at end most (head.Bin f n p) a = refl
uint_by_lem at end most (head.Other p) a = refl
uint_by_lem at end most (head.Array n p) a = refl
uint_by_lem at end most (head.Map n p) a = refl

pub uint_told : (s : List ℕ) (at most : ℕ) → UintTold at (length s) most (uint_at s at most)
unfolding uint_at
uint_told s at most = uint_by_lem at (length s) most (head_of at (drop at s)) (head_within s at)

abbrev pub GroupTold : ℕ → ℕ → ℕ → Result (ℕ × ℕ) ℕ → Type 0
GroupTold at end least (Ok (n, p)) = (least ≤ n) × Next at end p
GroupTold at end least (Err q) = q ≡ at

group_by_lem : (at end least : ℕ) (h : Head) → Ahead at end h → GroupTold at end least (group_by at least h)
unfolding group_by
group_by_lem at end least head.Cut a = refl
group_by_lem at end least head.Never a = refl
group_by_lem at end least (head.Nil p) a = refl
group_by_lem at end least (head.Flag b p) a = refl
group_by_lem at end least (head.Uint x p) a = refl
group_by_lem at end least (head.Minus m p) a = refl
group_by_lem at end least (head.Bin f n p) a = refl
group_by_lem at end least (head.Other p) a = refl
group_by_lem at end least (head.Array n p) a = tested (GroupTold at end least) (Ok (n, p)) (Err at) least n (λ k. (k, a)) refl
group_by_lem at end least (head.Map n p) a = refl

pub group_told : (s : List ℕ) (at least : ℕ) → GroupTold at (length s) least (group_at s at least)
unfolding group_at
group_told s at least = group_by_lem at (length s) least (head_of at (drop at s)) (head_within s at)

-- the bytes of a bin lie within the input, and end where the next value starts
abbrev pub BinTold : ℕ → ℕ → Result (ℕ × ℕ × ℕ) ℕ → Type 0
BinTold at end (Ok (f, n, p)) = (at < f) × (p ≡ f + n) × (p ≤ end)
BinTold at end (Err q) = q ≡ at

bin_by_lem : (at end : ℕ) (h : Head) → Ahead at end h → BinTold at end (bin_by at h)
unfolding bin_by
bin_by_lem at end head.Cut a = refl
bin_by_lem at end head.Never a = refl
bin_by_lem at end (head.Nil p) a = refl
bin_by_lem at end (head.Flag b p) a = refl
bin_by_lem at end (head.Uint x p) a = refl
bin_by_lem at end (head.Minus m p) a = refl
bin_by_lem at end (head.Bin f n p) a = a
bin_by_lem at end (head.Other p) a = refl
bin_by_lem at end (head.Array n p) a = refl
bin_by_lem at end (head.Map n p) a = refl

pub bin_told : (s : List ℕ) (at : ℕ) → BinTold at (length s) (bin_at s at)
unfolding bin_at
bin_told s at = bin_by_lem at (length s) (head_of at (drop at s)) (head_within s at)

-- the same of an answer in hand
pub uint_within : (s : List ℕ) (at most x p : ℕ) → uint_at s at most ≡ Ok (x, p) → (x ≤ most) × Next at (length s) p
uint_within s at most x p e = rw e at (uint_told s at most)

pub group_within : (s : List ℕ) (at least n p : ℕ) → group_at s at least ≡ Ok (n, p) → (least ≤ n) × Next at (length s) p
group_within s at least n p e = rw e at (group_told s at least)

pub bin_within : (s : List ℕ) (at f n p : ℕ) → bin_at s at ≡ Ok (f, n, p) → (at < f) × (p ≡ f + n) × (p ≤ length s)
bin_within s at f n p e = rw e at (bin_told s at)
