-- What the test of a window knows. Assumes nothing.
use Prim.Native.Nat.{ℕ, ◌+◌, ◌≤◌, ◌<◌}
use mathlib.Core.Path.{◌≡◌, refl, sym, ◌∙◌}
use mathlib.Core.Bool.{Bool, true, false}
use native.Mathlib.Omega.{arith}
use lib.Dec.{leb}
use borrow.Author.Tests.{leb-true}
use Rattle.keys.specs.Pick.{pick}
use Rattle.tables.specs.Window.{lies_in, held_of}
use Rattle.tables.specs.declared.Window.{Window}

module _ (w : Window) (rows : ℕ) where
  pub held_all : (r : Bool) → r ≡ lies_in w rows → r ≡ true → w.count ≡ held_of w rows
  unfolding held_of
  held_all r e h = rw (sym e ∙ h)

  pub held_none : (r : Bool) → r ≡ lies_in w rows → r ≡ false → 0 ≡ held_of w rows
  unfolding held_of
  held_none r e h = rw (sym e ∙ h)

  -- each row that a window holds is one of the table's
  pub held_in : (k : ℕ) → k < held_of w rows → w.first + k < rows
  unfolding held_of
  held_in k h = go (leb (w.first + w.count) rows) refl h
    where
      go : (b : Bool) → leb (w.first + w.count) rows ≡ b → k < pick b w.count 0 → w.first + k < rows
      go true e h = let l : w.first + w.count ≤ rows = leb-true (w.first + w.count) rows e in omega arith
      go false e h = absurd (omega arith)

pub ruleset windows = (held_all, held_none)
