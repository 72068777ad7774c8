-- Places in a pool, by the tests that the code makes.
use Prim.Native.Nat.{ℕ, zero, suc, ◌+◌, ◌-◌, ◌≤◌, ◌<◌}
use mathlib.Core.Path.{◌≡◌, sym, ◌∙◌}
use mathlib.Core.Bool.{Bool, true, false}
use mathlib.Core.List.{List, []}
use mathlib.Core.Logic.{◌↔◌}
use native.Mathlib.Nat.{add-sub_cancel_left}
use lib.Dec.{leb}
use lib.ListN.{length, get_or, take, drop}
use borrow.Author.Tests.{le-leb, lt-leb, leb-true, leb-false}
use mir.Syntax.{w8}
use mir.Val.{Fits}
use Rattle.keys.specs.declared.Bound.{Bound}
use Rattle.keys.specs.declared.Bound.TheVariants.{Unbounded, Included, Excluded}
use Rattle.keys.specs.Pick.{pick}
use Rattle.keys.specs.Prefix.{Bytes}
use Rattle.keys.specs.declared.Range.{Range}
use Rattle.keys.specs.Range.{Empty, empty_of}
use Rattle.keys.specs.Pool.{part_of, edge_of, edges_of, inside_of}
use Rattle.keys.proofs.Prefixes.{bytes_of}
use Rattle.keys.proofs.Ranges.{BytesE, empty_law}

module _ (n at len : ℕ) where
  pub fits_true : (r : Bool) → r ≡ leb (at + len) n → r ≡ true → at + len ≤ n
  fits_true r e h = leb-true (at + len) n (sym e ∙ h)

-- ---- what a place names
module _ (pool : List ℕ) (at len : ℕ) where
  pub part_inside : at + len ≤ length pool → take len (drop at pool) ≡ part_of pool at len
  unfolding part_of
  part_inside h = rw (le-leb (at + len) (length pool) h)

  pub part_outside : length pool < at + len → [] ≡ part_of pool at len
  unfolding part_of
  part_outside h = rw (lt-leb (at + len) (length pool) h)

  pub part_read : (r : Bool) → r ≡ leb (at + len) (length pool) → r ≡ true → take (at + len - at) (drop at pool) ≡ part_of pool at len
  part_read r e h = rw (add-sub_cancel_left at len) (part_inside (fits_true (length pool) at len r e h))

  pub part_none : (r : Bool) → r ≡ leb (at + len) (length pool) → r ≡ false → [] ≡ part_of pool at len
  part_none r e h = part_outside (leb-false (at + len) (length pool) (sym e ∙ h))

pub ruleset parts = (fits_true, part_read, part_none)

module _ (n : ℕ) (b : Bound) where
  pub inside_free : b ≡ Unbounded → true ≡ inside_of n b
  inside_free e = rw e

  pub inside_included : (at len : ℕ) (r : Bool) → b ≡ Included at len → r ≡ leb (at + len) n → r ≡ inside_of n b
  inside_included at len r e h = rw e h

  pub inside_excluded : (at len : ℕ) (r : Bool) → b ≡ Excluded at len → r ≡ leb (at + len) n → r ≡ inside_of n b
  inside_excluded at len r e h = rw e h

pub ruleset inside = (inside_free, inside_included, inside_excluded)

-- ---- the bytes of a pool of bytes
pub bytes_fit : (pool : List ℕ) → ((i : ℕ) → Fits w8 (get_or pool i 0)) → Bytes pool
bytes_fit pool h = bytes_of pool (λ i. (h i).fits)

pub bytes_drop : {l : List ℕ} (n : ℕ) → Bytes l → Bytes (drop n l)
bytes_drop zero b = b
bytes_drop (suc n) Bytes.none = Bytes.none
bytes_drop (suc n) (Bytes.one h b) = bytes_drop n b

pub bytes_take : {l : List ℕ} (n : ℕ) → Bytes l → Bytes (take n l)
bytes_take zero b = Bytes.none
bytes_take (suc n) Bytes.none = Bytes.none
bytes_take (suc n) (Bytes.one h b) = Bytes.one h (bytes_take n b)

pub bytes_part : {pool : List ℕ} (at len : ℕ) → Bytes pool → Bytes (part_of pool at len)
unfolding part_of
bytes_part {pool} at len b = go (leb (at + len) (length pool))
  where
    go : (t : Bool) → Bytes (pick t (take len (drop at pool)) [])
    go true = bytes_take len (bytes_drop at b)
    go false = Bytes.none

pub bytes_edge : {pool : List ℕ} (b : Bound) → Bytes pool → BytesE (edge_of pool b)
bytes_edge Unbounded p = tt
bytes_edge (Included at len) p = bytes_part at len p
bytes_edge (Excluded at len) p = bytes_part at len p

-- THE EMPTINESS LAW of a range as the code holds it
pub empty_in_pool : {pool : List ℕ} → Bytes pool → (r : Range) → (empty_of (edge_of pool r.start) (edge_of pool r.end) ≡ true) ↔ Empty (edges_of pool r)
empty_in_pool {pool} b r = empty_law (edges_of pool r) (bytes_edge r.start b)
