-- Lists of records, written one after another: one invariant for every list. Assumes nothing.
use mathlib.Core.Path.{◌≡◌, refl, sym, ◌∙◌}
use mathlib.Core.List.{List, [], ◌∷◌, ◌++◌, map, append_assoc, append-nil}
use Prim.Native.Nat.{ℕ, ◌+◌, ◌≤◌, ◌<◌}
use native.Mathlib.Numerals.{add-one}
use native.Mathlib.Omega.{arith}
use lib.ListN.{length, length-map}
use Rattle.tables.specs.Layout.{up_to}
use Rattle.tables.specs.Window.{held_of}
use Rattle.tables.specs.declared.Window.{Window}
use Rattle.tables.proofs.Joined.{up_to_length}
use Rattle.tables.proofs.Windows.{held_in}
use Rattle.msgpack_put.specs.Write.{array_bytes, concat}
use Rattle.manifest_write.specs.Bytes.{list_bytes}
use Rattle.manifest_write.specs.Wrote.{Wrote}
use Rattle.manifest_write.proofs.Wrotes.{then, wrote_as}

-- the bytes of one record more
concat_more : {A : Type 0} (one : A → List ℕ) (xs : List A) (x : A) → concat (map one (xs ++ (x ∷ []))) ≡ concat (map one xs) ++ one x
unfolding concat
concat_more one [] x = append-nil (one x)
concat_more one (y ∷ ys) x = rw (concat_more one ys x) (sym (append_assoc (one y) (concat (map one ys)) (one x)))

-- the first k of n records stand in d from `at` on, which is d' now
pub record Listed {A : Type 0} (one : A → List ℕ) (g : ℕ → A) (d : List ℕ) (at n k p : ℕ) (d' : List ℕ) : Type 0 where
  pub within : k ≤ n
  pub is : Wrote d at (concat (map one (up_to g k))) p d'

module _ {A : Type 0} (one : A → List ℕ) (g : ℕ → A) (d₀ d : List ℕ) (at₀ at n : ℕ) (head : Wrote d₀ at₀ (array_bytes n) at d) where
  pub listed_none : Listed one g d at n 0 at d
  unfolding concat
  listed_none = record { within = omega arith; is = record { next = omega (arith, head.next); long = refl; is = λ e k. refl } }

  pub listed_all : (k m p : ℕ) (d' : List ℕ) → Listed one g d at n k p d' → n ≤ k → n ≡ m → Wrote d₀ at₀ (list_bytes one (up_to g m)) p d'
  listed_all k m p d' l h e =
      let f : k ≡ m = omega (arith, l.within) in
      let r : length (map one (up_to g m)) ≡ n = length-map (up_to g m) one ∙ up_to_length g m ∙ sym e in
      rw r (then d₀ d d' at₀ at p (array_bytes n) (concat (map one (up_to g m))) head (rw f at l.is))

pub listed_more : {A : Type 0} (one : A → List ℕ) (g : ℕ → A) (d d' d'' : List ℕ) (at n k p q : ℕ) → Listed one g d at n k p d' → k < n
    → Wrote d' p (one (g k)) q d'' → Listed one g d at n (k + 1) q d''
listed_more one g d d' d'' at n k p q l h w =
    record { within = omega arith; is = rw add-one (wrote_as d d'' at q _ _ (concat_more one (up_to g k) (g k)) (then d d' d'' at p q (concat (map one (up_to g k))) (one (g k)) l.is w)) }

-- each row that the loop comes to is one of the table's
pub row_in : (w : Window) (n rows k : ℕ) → n ≡ held_of w rows → k < n → w.first + k < rows
row_in w n rows k e h = held_in w rows k (omega arith)

pub ruleset lists = (listed_none, listed_more, listed_all, row_in)
