-- One copier: words and bytes alike are put in place one after the other. Assumes nothing.
use Prim.Native.Nat.{ℕ, ◌+◌, ◌≤◌, ◌<◌}
use mathlib.Core.Path.{◌≡◌, refl, sym, ap, subst, ◌∙◌}
use mathlib.Core.List.{List, append_assoc}
use native.Mathlib.Omega.{arith}
use native.Mathlib.Numerals.{add-one}
use lib.ListN.{length, get_or, set, take, drop, length-set}
use lib.Seq.{paste, paste-zero, paste-suc, take-length}
use Rattle.tables.specs.Layout.{write}

-- the first k of src stand in d₀ from `at` on
pub record Copied {A : Type 0} (d₀ : List A) (at : ℕ) (src d : List A) (k : ℕ) : Type 0 where
  pub within : k ≤ length src
  pub room : at + length src ≤ length d₀
  pub long : length d ≡ length d₀
  pub is : d ≡ paste d₀ at src k

pub copied_none : {A : Type 0} (d : List A) (at : ℕ) (src : List A) → at + length src ≤ length d → Copied d at src d 0
copied_none d at src h = record { within = omega arith; room = h; long = refl; is = paste-zero d at src }

module _ (A : Type 0) (d₀ : List A) (at : ℕ) (src d : List A) (k : ℕ) (w : Copied d₀ at src d k) where
  pub copied_more : (x : A) → k < length src → Copied d₀ at src (set d (at + k) (get_or src k x)) (k + 1)
  copied_more x h =
      record {
        within = omega arith;
        room = w.room;
        long = length-set d (at + k) (get_or src k x) ∙ w.long;
        is = ap (λ l. set l (at + k) (get_or src k x)) w.is ∙ rw (add-one k) (paste-suc d₀ at src k x (omega (arith, w.room)) h);
      }

  pub copied_at : (x : A) → x ≡ get_or src k x → k < length src → Copied d₀ at src (set d (at + k) x) (k + 1)
  copied_at x e h = subst (λ y. Copied d₀ at src (set d (at + k) y) (k + 1)) (sym e) (copied_more x h)

  pub copied_all : length src ≤ k → d ≡ write d₀ at src
  copied_all h =
      let e : k ≡ length src = omega (arith, w.within) in
      w.is ∙ rw e (rw (take-length src) (append_assoc (take at d₀) src (drop (at + length src) d₀)))

  pub copied_to : length src ≤ k → at + k ≡ at + length src
  copied_to h = omega (arith, w.within)

pub ruleset copies = (copied_none, copied_at, copied_all, copied_to)
