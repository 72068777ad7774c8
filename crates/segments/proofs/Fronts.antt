-- A loop that stops at the first row that does not pass. Assumes nothing.
use Prim.Native.Nat.{ℕ, zero, suc, ◌+◌, ◌≤◌, ◌<◌, suc-le-suc}
use mathlib.Core.Path.{◌≡◌, refl, sym, ap, ◌∙◌}
use mathlib.Core.Bool.{Bool, true, false}
use native.Mathlib.Omega.{arith}
use borrow.Author.Count.{below_more}
use Rattle.keys.specs.Pick.{pick}
use Rattle.tables.specs.Layout.{up_to}
use Rattle.tables.proofs.Holds.{up_to_front}
use Rattle.segments.specs.Prefixes.{leading}

-- the same by index
abbrev lead_to : (ℕ → Bool) → ℕ → ℕ
lead_to p zero = 0
lead_to p (suc n) = pick (p 0) (suc (lead_to (λ k. p (suc k)) n)) 0

pub lead_up_to : {A : Type 0} (f : A → Bool) (g : ℕ → A) (n : ℕ) → leading f (up_to g n) ≡ lead_to (λ k. f (g k)) n
lead_up_to f g zero = refl
lead_up_to f g (suc n) = rw (up_to_front g n) (ap (λ m. pick (f (g 0)) (suc m) 0) (lead_up_to f (λ k. g (suc k)) n))

lead_stop : (p : ℕ → Bool) (n i : ℕ) → i < n → ((k : ℕ) → k < i → p k ≡ true) → p i ≡ false → i ≡ lead_to p n
lead_stop p zero i h q e = absurd (omega arith)
lead_stop p (suc n) zero h q e = rw e
lead_stop p (suc n) (suc i) h q e = rw (q 0 (omega arith)) (ap suc (lead_stop (λ k. p (suc k)) n i (omega arith) (λ k l. q (suc k) (suc-le-suc l)) e))

lead_all : (p : ℕ → Bool) (n : ℕ) → ((k : ℕ) → k < n → p k ≡ true) → n ≡ lead_to p n
lead_all p zero q = refl
lead_all p (suc n) q = rw (q 0 (omega arith)) (ap suc (lead_all (λ k. p (suc k)) n (λ k l. q (suc k) (suc-le-suc l))))

-- each below k passes, and x is how many at the front of n do
pub record Led (x : ℕ) (p : ℕ → Bool) (n k : ℕ) : Type 0 where
  pub within : k ≤ n
  pub passed : (i : ℕ) → i < k → p i ≡ true
  pub says : x ≡ lead_to p n

pub led_none : {A : Type 0} (f : A → Bool) (g : ℕ → A) (n m x : ℕ) → m ≡ n → x ≡ leading f (up_to g n) → Led x (λ k. f (g k)) m 0
led_none f g n m x h e = record { within = omega arith; passed = λ i l. absurd (omega arith); says = rw h (e ∙ lead_up_to f g n) }

module _ (x : ℕ) (p : ℕ → Bool) (n k : ℕ) (w : Led x p n k) where
  module _ (r : Bool) (h : k < n) (e : r ≡ p k) where
    pub led_more : r ≡ true → Led x p n (k + 1)
    led_more t = record { within = omega arith; passed = below_more _ _ w.passed (sym e ∙ t); says = w.says }

    pub led_here : r ≡ false → k ≡ x
    led_here t = lead_stop p n k h w.passed (sym e ∙ t) ∙ sym w.says

  pub led_all : n ≤ k → n ≡ x
  led_all h = let e : k ≡ n = omega (arith, w.within) in lead_all p n (rw e at w.passed) ∙ sym w.says

pub ruleset leads = (led_more, led_here, led_all)
