-- Whether a test holds of each k below n: by a loop that leaves at the first of which it fails, or all at once. Assumes nothing.
use Prim.Native.Nat.{ℕ, zero, suc, ◌+◌, ◌-◌, ◌/◌, ◌^◌, ◌≤◌, ◌<◌}
use mathlib.Core.Path.{◌≡◌, refl, sym, ap, ◌∙◌}
use mathlib.Core.Bool.{Bool, true, false, ◌&&◌}
use Rattle.std.specs.List.{list_all, range_with_len}
use Rattle.tables.proofs.Holds.{up_to_front}
use native.Mathlib.Omega.{arith}
use native.Mathlib.Nat.{div-le_self, lt_trans, lt_of_lt_of_le}
use mir.Syntax.{w64}
use mir.Val.{Fits}
use native.Mathlib.Numerals.{add-one}
use native.Mathlib.Decide.{dec_lt}
use Rattle.tables.specs.Window.{held_of}
use Rattle.tables.specs.declared.Window.{Window}
use Rattle.tables.proofs.Windows.{held_in}
use Rattle.measure.specs.Tests.{all_of, all_below}
use Rattle.measure.proofs.Lists.{and_false, all_up_to}

-- where one fails, not all pass
fails_at : (p : ℕ → Bool) (k n : ℕ) → k < n → p k ≡ false → all_below p n ≡ false
fails_at p k zero h e = absurd (omega arith)
fails_at p k (suc n) h e =
    elim (dec_lt k n) [ yes l ↦ rw (fails_at p k n l e) | no l ↦ (let q : k ≡ n = omega arith in rw (ap p (sym q) ∙ e) (and_false (all_below p n))) ]

-- the same from the front
below_front : (g : ℕ → Bool) (n : ℕ) → all_below g (suc n) ≡ (g 0 && all_below (λ k. g (suc k)) n)
below_front g n =
    sym (all_up_to (λ b. b) g (suc n)) ∙ ap (all_of (λ b. b)) (up_to_front g n) ∙ ap (λ b. g 0 && b) (all_up_to (λ b. b) (λ k. g (suc k)) n)

range_from : (p g : ℕ → Bool) (a n : ℕ) → ((k : ℕ) → g k ≡ p (a + k)) → list_all p (range_with_len a n) ≡ all_below g n
range_from p g a zero h = refl
range_from p g a (suc n) h =
    let first : p a ≡ g 0 = ap p (omega arith) ∙ sym (h 0) in
    rw (first, range_from p (λ k. g (suc k)) (a + 1) n (λ k. h (suc k) ∙ ap p (omega arith))) (sym (below_front g n))

pub range_below : (p : ℕ → Bool) (n : ℕ) → list_all p (range_with_len 0 n) ≡ all_below p n
range_below p n = range_from p p 0 n (λ k. ap p (omega arith))

-- p holds of each below k, and x says whether it does of each below n
pub record Passed (x : Bool) (p : ℕ → Bool) (n k : ℕ) : Type 0 where
  pub within : k ≤ n
  pub so : all_below p k ≡ true
  pub says : x ≡ all_below p n

pub passed_none : (x : Bool) (p : ℕ → Bool) (n m : ℕ) → m ≡ n → x ≡ all_below p n → Passed x p m 0
passed_none x p n m h e = record { within = omega arith; so = refl; says = rw h e }

module _ (x : Bool) (p : ℕ → Bool) (n k : ℕ) (w : Passed x p n k) (r : Bool) (h : k < n) where
  pub passed_more : r ≡ p k → r ≡ true → Passed x p n (k + 1)
  passed_more e t = record { within = omega arith; so = rw (add-one k) (rw (w.so, sym e ∙ t)); says = w.says }

  pub passed_broken : r ≡ p k → r ≡ false → false ≡ x
  passed_broken e t = sym (w.says ∙ fails_at p k n h (sym e ∙ t))

pub passed_all : (x : Bool) (p : ℕ → Bool) (n k : ℕ) → Passed x p n k → n ≤ k → true ≡ x
passed_all x p n k w h = let e : k ≡ n = omega (arith, w.within) in sym (w.says ∙ rw e at w.so)

-- the rows of a window of a table of len words, d a row, and each with its next
module _ (w : Window) (len d h k : ℕ) (e : h ≡ held_of w (len / d)) where
  pub row_in : k < h → w.first + k < len / d
  row_in l = held_in w (len / d) k (omega arith)

  pub row_fits : k < h → len < 2 ^ 64 → Fits w64 (w.first + k)
  row_fits l m = record { fits = lt_trans (lt_of_lt_of_le (row_in l) (div-le_self len d)) m }

module _ (w : Window) (len d h n k : ℕ) (e : h ≡ held_of w (len / d)) (g : n ≡ h - 1) where
  pub gaps_are : n ≡ held_of w (len / d) - 1
  gaps_are = rw (sym e) g

  pub gap_in : k < n → w.first + k < len / d
  gap_in l = row_in w len d h k e (omega arith)

  pub next_in : k < n → w.first + (k + 1) < len / d
  next_in l = row_in w len d h (k + 1) e (omega arith)

  pub gap_fits : k < n → len < 2 ^ 64 → Fits w64 (w.first + k)
  gap_fits l m = row_fits w len d h k e (omega arith) m

  pub next_fits : k < n → len < 2 ^ 64 → Fits w64 (w.first + (k + 1))
  next_fits l m = row_fits w len d h (k + 1) e (omega arith) m

pub ruleset rows = (row_in, row_fits)
