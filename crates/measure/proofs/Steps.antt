-- What a step of the walk decides: whether its records lie within, keep the limits of length and fit. Assumes nothing.
use Rattle.std.specs.Prelude.{None, Option, Some}
use Prim.Native.Nat.{ℕ, zero, suc, ◌+◌}
use mathlib.Core.Path.{◌≡◌, refl, sym, ap, ◌∙◌}
use mathlib.Core.Bool.{Bool, true, false, ◌&&◌}
use native.Mathlib.Omega.{arith}
use lib.Dec.{leb}
use Rattle.keys.specs.Pick.{pick}
use Rattle.tables.specs.Layout.{up_to}
use Rattle.tables.specs.Window.{lies_in, held_of}
use Rattle.tables.specs.declared.Window.{Window}
use Rattle.records.specs.Fill.{empty, plus, sum, fits}
use Rattle.records.specs.declared.Fill.{Fill}
use Rattle.measure.specs.Tests.{all_of, all_below}
use Rattle.measure.specs.Walk.{then, walk_all, add_of, window_walk}
use Rattle.measure.proofs.Fits.{fits_part}
use Rattle.records.proofs.Sums.{plus_empty, plus_assoc}
use Rattle.measure.proofs.Lists.{and_false, all_up_to, sum_to, Unit, sum_up_to}

-- p: the records lie within their tables; s: their byte strings are short enough; g: what they fill
abbrev pub stepped : Fill → Bool → Bool → Fill → Fill → Option Fill
stepped most p s g c = pick (p && (s && fits (plus c g) most)) (Some (plus c g)) None

pub record Step (most : Fill) (p s : Bool) (g : Fill) (f : Fill → Option Fill) : Type 0 where
  pub gives : (c : Fill) → fits c most ≡ true → f c ≡ stepped most p s g c

module _ {most : Fill} where
  pub step_none : Step most true true empty Some
  step_none = record { gives = λ c k. rw (plus_empty c, k) }

  -- a code that stands for nothing
  pub step_never : {s : Bool} {g : Fill} → Step most false s g (λ c. None)
  step_never = record { gives = λ c k. refl }

  pub step_then : {p q s t : Bool} {g h : Fill} {f e : Fill → Option Fill} → Step most p s g f → Step most q t h e → Step most (p && q) (s && t) (plus g h) (λ c. then (f c) e)
  step_then {p} {q} {s} {t} {g} {h} {f} {e} a b = record { gives = λ c k. ap (λ w. then w e) (a.gives c k) ∙ go c p s (fits (plus c g) most) refl }
    where
      go : (c : Fill) (p s r : Bool) → fits (plus c g) most ≡ r → then (pick (p && (s && r)) (Some (plus c g)) None) e ≡ stepped most (p && q) (s && t) (plus g h) c
      go c false s r k = refl
      go c true false r k = rw (and_false q)
      go c true true false k = rw (← plus_assoc c g h, fits_part (plus c g) h most k, and_false t, and_false q)
      go c true true true k = b.gives (plus c g) k ∙ rw (plus_assoc c g h)

  -- what is said only of records that lie within
  pub step_as : {p s t : Bool} {g h : Fill} {f : Fill → Option Fill} → Step most p s g f → (p ≡ true → s ≡ t) → (p ≡ true → g ≡ h) → Step most p t h f
  step_as {p} {s} {t} {g} {h} {f} a e d = record { gives = λ c k. a.gives c k ∙ go c p e d }
    where
      go : (c : Fill) (p : Bool) → (p ≡ true → s ≡ t) → (p ≡ true → g ≡ h) → stepped most p s g c ≡ stepped most p t h c
      go c true e d = rw (e refl, d refl)
      go c false e d = refl

  -- a test that the records lie within, and one of length
  pub step_guard : (b : Bool) {p s : Bool} {g : Fill} {f : Fill → Option Fill} → Step most p s g f → Step most (b && p) s g (λ c. pick b (f c) None)
  step_guard true a = a
  step_guard false a = record { gives = λ c k. refl }

  pub step_short : (b : Bool) {p s : Bool} {g : Fill} {f : Fill → Option Fill} → Step most p s g f → Step most p (b && s) g (λ c. pick b (f c) None)
  step_short true a = a
  step_short false {p} a = record { gives = λ c k. rw (and_false p) }

  pub step_window : (w : Window) (rows : ℕ) (g : Fill) → Step most (lies_in w rows) true g (window_walk most rows w g)
  unfolding window_walk add_of
  step_window w rows g = record { gives = λ c k. go c (leb (w.first + w.count) rows) }
    where
      go : (c : Fill) (b : Bool) → pick b (pick (fits (plus c g) most) (Some (plus c g)) None) None ≡ stepped most b true g c
      go c true = refl
      go c false = refl

  pub step_all : {p s : ℕ → Bool} {g : ℕ → Fill} {f : ℕ → Fill → Option Fill} → ((k : ℕ) → Step most (p k) (s k) (g k) (f k)) → (n : ℕ) → Step most (all_below p n) (all_below s n) (sum_to g n) (walk_all f n)
  step_all h zero = step_none
  step_all h (suc n) = step_then (step_all h n) (h n)

-- ---- the rows of a window: counted at once, then walked
pub held : (w : Window) (rows : ℕ) (q : Bool) → (lies_in w rows && q) ≡ true → w.count ≡ held_of w rows
unfolding held_of
held w rows q h = go (leb (w.first + w.count) rows) h
  where
    go : (b : Bool) → (b && q) ≡ true → w.count ≡ pick b w.count 0
    go true h = refl
    go false h = let z : ◌≡◌ {A = ℕ} 0 1 = cc in absurd (omega arith)

module _ {most : Fill} {A : Type 0} (u : ℕ → Fill) (i : Unit u) (x : ℕ → A) (s : A → Bool) (g : A → Fill) (w : Window) (rows : ℕ) where
  pub step_rows : {p : ℕ → Bool} {f : ℕ → Fill → Option Fill} → ((k : ℕ) → Step most (p k) (s (x k)) (g (x k)) (f k)) → Step most (lies_in w rows && all_below p w.count) (all_of s (up_to x (held_of w rows))) (sum (λ y. plus (u 1) (g y)) (up_to x (held_of w rows))) (λ c. then (window_walk most rows w (u w.count) c) (walk_all f w.count))
  step_rows {p} h =
      step_as
      (step_then (step_window w rows (u w.count)) (step_all h w.count))
      (λ e. rw (← held w rows (all_below p w.count) e) (sym (all_up_to s x w.count)))
      (λ e. rw (← held w rows (all_below p w.count) e) (sum_up_to u i g x w.count))
