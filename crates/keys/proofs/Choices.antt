-- What a comparison chooses, what two bounds make of a range, and when a part fits: laws that the contracts of keys come to.
use Prim.Native.Nat.{ℕ, ◌+◌, ◌-◌, ◌≤◌, ◌<◌}
use mathlib.Core.Path.{◌≡◌, sym, ◌∙◌}
use mathlib.Core.List.{List}
use mathlib.Core.Bool.{true, false}
use native.Mathlib.Omega.{arith}
use lib.Dec.{leb}
use borrow.Author.Tests.{lt-leb}
use Rattle.std.specs.declared.cmp.Ordering.{Ordering}
use Rattle.std.specs.declared.cmp.Ordering.TheVariants.{Less, Equal, Greater}
use Rattle.keys.specs.Pick.{pick}
use Rattle.keys.specs.Key.{is_less}
use Rattle.keys.specs.Pool.{later_in, earlier_in, meet_in}
use Rattle.keys.specs.declared.Bound.{Bound}
use Rattle.keys.specs.declared.Range.{Range}
use Rattle.keys.proofs.Says.{says_same, says_le}

module _ (o q : Ordering) (e : o ≡ q) where
  pub is_less_lem : o ≡ Less → true ≡ is_less q
  is_less_lem h = rw (sym e ∙ h)

  pub is_equal_lem : o ≡ Equal → false ≡ is_less q
  is_equal_lem h = rw (sym e ∙ h)

  pub is_greater : o ≡ Greater → false ≡ is_less q
  is_greater h = rw (sym e ∙ h)

module _ (A : Type 0) (o q : Ordering) (x y : A) (e : o ≡ q) where
  pub take_less : o ≡ Less → x ≡ pick (is_less q) x y
  take_less h = rw (sym e ∙ h)

  pub take_equal : o ≡ Equal → y ≡ pick (is_less q) x y
  take_equal h = rw (sym e ∙ h)

  pub take_greater : o ≡ Greater → y ≡ pick (is_less q) x y
  take_greater h = rw (sym e ∙ h)

-- ---- the two bounds of an intersection
pub meet_both : (pool : List ℕ) (a b : Range) (s e : Bound) → s ≡ later_in pool a.start b.start → e ≡ earlier_in pool a.end b.end → record { start = s; end = e } ≡ meet_in pool a b
meet_both pool a b s e p q = rw (p, q)

-- ---- a part within a pool
module _ (n at len : ℕ) where
  pub fits_in : at ≤ n → leb len (n - at) ≡ leb (at + len) n
  fits_in h = says_same (λ k. omega arith, λ k. omega arith) (says_le len (n - at)) (says_le (at + len) n)

  pub fits_out : n < at → false ≡ leb (at + len) n
  fits_out h = sym (lt-leb (at + len) n (omega arith))
