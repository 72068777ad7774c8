-- What it is to fit, number by number. Assumes nothing.
use Rattle.std.specs.Prelude.{None, Some}
use Prim.Native.Nat.{◌≤◌}
use mathlib.Core.Path.{◌≡◌, sym, ◌∙◌}
use mathlib.Core.Bool.{Bool, true, false}
use native.Mathlib.Omega.{arith}
use lib.Dec.{leb}
use Rattle.keys.specs.Says.{Says}
use Rattle.keys.proofs.Says.{says_and, says_iff, says_le, says_same, says_true, says_false, false_says}
use Rattle.records.specs.Fill.{plus, fits}
use Rattle.records.specs.declared.Fill.{Fill}
use Rattle.measure.specs.Walk.{left_of, add_of}

pub record Under (a most : Fill) : Type 0 where
  pub segments : a.segments ≤ most.segments
  pub views : a.views ≤ most.views
  pub runs : a.runs ≤ most.runs
  pub borrows : a.borrows ≤ most.borrows
  pub ids : a.ids ≤ most.ids
  pub bytes : a.bytes ≤ most.bytes

pub says_fits : (a most : Fill) → Says (Under a most) (fits a most)
unfolding fits
says_fits a most =
    says_iff (
      λ w.
          record {
            segments = w.0.0.0.0.0;
            views = w.0.0.0.0.1;
            runs = w.0.0.0.1;
            borrows = w.0.0.1;
            ids = w.0.1;
            bytes = w.1;
          },
      λ w. (((((w.segments, w.views), w.runs), w.borrows), w.ids), w.bytes),
    )
    (says_and
    (says_and
    (says_and
    (says_and
    (says_and (says_le a.segments most.segments) (says_le a.views most.views))
    (says_le a.runs most.runs))
    (says_le a.borrows most.borrows))
    (says_le a.ids most.ids))
    (says_le a.bytes most.bytes))

module _ (a most : Fill) where
  pub fits_out : (Under a most → ⊥) → false ≡ fits a most
  fits_out n = sym (false_says (says_fits a most) n)

  pub fits_last : a.segments ≤ most.segments → a.views ≤ most.views → a.runs ≤ most.runs → a.borrows ≤ most.borrows → a.ids ≤ most.ids → leb a.bytes most.bytes ≡ fits a most
  fits_last s v r b i = says_same (λ l. record { segments = s; views = v; runs = r; borrows = b; ids = i; bytes = l }, λ w. w.bytes) (says_le a.bytes most.bytes) (says_fits a most)

  pub under : fits a most ≡ true → Under a most
  under h = says_true (says_fits a most) h

-- a part fits where the whole does
under_part : (a b most : Fill) → Under (plus a b) most → Under a most
under_part a b most w = record { segments = omega arith; views = omega arith; runs = omega arith; borrows = omega arith; ids = omega arith; bytes = omega arith }

pub fits_part : (a b most : Fill) → fits a most ≡ false → fits (plus a b) most ≡ false
fits_part a b most h = false_says (says_fits (plus a b) most) (λ w. says_false (says_fits a most) h (under_part a b most w))

-- ---- adding
module _ (most c more : Fill) where
  -- what is left is enough exactly where the sum fits
  pub fits_left : Under c most → fits more (left_of most c) ≡ fits (plus c more) most
  fits_left u =
      says_same (
        λ w. record { segments = omega arith; views = omega arith; runs = omega arith; borrows = omega arith; ids = omega arith; bytes = omega arith },
        λ w. record { segments = omega arith; views = omega arith; runs = omega arith; borrows = omega arith; ids = omega arith; bytes = omega arith },
      )
      (says_fits more (left_of most c))
      (says_fits (plus c more) most)

  pub add_over : (r : Bool) → r ≡ fits c most → r ≡ false → None ≡ add_of most c more
  unfolding add_of
  add_over r e h = rw (fits_part c more most (sym e ∙ h))

  pub left_is : (r : Bool) → r ≡ fits c most → r ≡ true → fits c most ≡ true
  left_is r e h = sym e ∙ h

  module _ (q r : Bool) (left : Fill) (d : q ≡ fits c most) (i : q ≡ true) (l : left ≡ left_of most c) (e : r ≡ fits more left) where
    sum_fits : fits (plus c more) most ≡ r
    sum_fits = sym (fits_left (under c most (sym d ∙ i))) ∙ (rw l at (sym e))

    pub sum_is : r ≡ true → fits (plus c more) most ≡ true
    sum_is h = sum_fits ∙ h

    pub add_past : r ≡ false → None ≡ add_of most c more
    unfolding add_of
    add_past h = rw (sum_fits ∙ h)

    pub add_done : (s : Fill) → r ≡ true → s ≡ plus c more → Some s ≡ add_of most c more
    unfolding add_of
    add_done s h k = rw (sum_fits ∙ h, k)
