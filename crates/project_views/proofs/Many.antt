-- Pieces of any number of records laid one after the other are their records laid one after the other. Assumes nothing.
use Prim.Native.Nat.{ℕ, zero, suc, ◌+◌}
use mathlib.Core.Path.{◌≡◌, refl, sym, ap, ◌∙◌}
use mathlib.Core.Bool.{Bool, true, false}
use mathlib.Core.List.{List, [], ◌∷◌, ◌++◌}
use native.Mathlib.Omega.{arith}
use native.Mathlib.Nat.{suc-add}
use lib.Dec.{ltb}
use borrow.Author.Tests.{lt-ltb}
use Rattle.keys.proofs.Says.{says_same, says_lt}
use Rattle.keys.specs.Range.{Edges}
use Rattle.tables.specs.Layout.{up_to, joined}
use Rattle.tables.proofs.Holds.{up_to_front}
use Rattle.tables.proofs.Joined.{joined_append}
use Rattle.records.specs.Model.{View, next_end}
use Rattle.records.specs.Fill.{plus, sum}
use Rattle.records.specs.Layout.{laid}
use Rattle.records.specs.declared.Fill.{Fill}
use Rattle.records.proofs.Sums.{sum_append}
use Rattle.records.proofs.Laid.{Column, column, column_long, laid_append}
use Rattle.project_views.specs.Shown.{kept_view, run_shown, l0_shown}
use Rattle.project_views.specs.Steps.{kept_to, end_of, piece_of, views_shown}

-- all records of some pieces
abbrev pub all : {A : Type 0} → List (List A) → List A
all xss = joined (λ xs. xs) xss

module _ {A : Type 0} (fill : A → Fill) where
  pub sum_many : (xss : List (List A)) → sum (sum fill) xss ≡ sum fill (all xss)
  sum_many [] = refl
  sum_many (xs ∷ xss) = ap (plus (sum fill xs)) (sum_many xss) ∙ sym (sum_append fill xs (all xss))

  laid_many : (words : Fill → A → List ℕ) (c : Fill) (xss : List (List A)) → laid (sum fill) (laid fill words) c xss ≡ laid fill words c (all xss)
  laid_many words c [] = refl
  laid_many words c (xs ∷ xss) = rw (laid_many words (plus c (sum fill xs)) xss) (sym (laid_append fill words c xs (all xss)))

pub joined_many : {A B : Type 0} (f : A → List B) (xss : List (List A)) → joined (joined f) xss ≡ joined f (all xss)
joined_many f [] = refl
joined_many f (xs ∷ xss) = rw (joined_many f xss) (sym (joined_append f xs (all xss)))

-- what pieces write into a table
abbrev pub many : {A : Type 0} {fill : A → Fill} → Column fill → Column (sum fill)
many col = record { table = col.table; words = column col; long = column_long col }

pub column_many : {A : Type 0} {fill : A → Fill} (col : Column fill) (c : Fill) (xss : List (List A)) → column (many col) c xss ≡ column col c (all xss)
column_many {fill = fill} col c xss = laid_many fill col.words c xss

-- ---- the views that are shown, piece by piece

up_to_same : {A : Type 0} (f g : ℕ → A) → ((k : ℕ) → f k ≡ g k) → (n : ℕ) → up_to f n ≡ up_to g n
up_to_same f g h n = ap (λ e. up_to e n) (λ i k. h k i)

-- the first piece, and those after it
pub all_front : {A : Type 0} (f g : ℕ → List A) → ((k : ℕ) → f (suc k) ≡ g k) → (n : ℕ) → all (up_to f (suc n)) ≡ f 0 ++ all (up_to g n)
all_front f g h n = rw (up_to_front f n, up_to_same (λ k. f (suc k)) g h n)

module _ (r : Edges) where
  kept_next : (v : View) (later : List View) → kept_view r v later ≡ kept_to r v (next_end v later)
  unfolding kept_view kept_to
  kept_next v later = refl

  l0_pieces : (f : ℕ → View) (n : ℕ) → l0_shown r (up_to f n) ≡ all (up_to (piece_of r true f n) n)
  unfolding l0_shown piece_of
  l0_pieces f zero = refl
  l0_pieces f (suc n) =
      rw (up_to_front f n, all_front (piece_of r true f (suc n)) (piece_of r true (λ k. f (suc k)) n) (λ k. refl) n, l0_pieces (λ k. f (suc k)) n, kept_next (f 0) [])

  end_first : (f : ℕ → View) (n : ℕ) → next_end (f 0) (up_to (λ k. f (suc k)) n) ≡ end_of false f (suc n) 0
  end_first f zero = refl
  end_first f (suc n) = rw (up_to_front (λ k. f (suc k)) n, lt-ltb 1 (suc (suc n)) (omega arith))

  ltb_suc : (k n : ℕ) → ltb (suc k) (suc n) ≡ ltb k n
  ltb_suc k n = says_same (λ h. omega arith, λ h. omega arith) (says_lt (suc k) (suc n)) (says_lt k n)

  end_later : (f : ℕ → View) (n k : ℕ) → end_of false f (suc n) (suc k) ≡ end_of false (λ i. f (suc i)) n k
  end_later f n k = rw (suc-add k 1, ltb_suc (k + 1) n)

  run_pieces : (f : ℕ → View) (n : ℕ) → run_shown r (up_to f n) ≡ all (up_to (piece_of r false f n) n)
  unfolding run_shown piece_of
  run_pieces f zero = refl
  run_pieces f (suc n) =
      rw (up_to_front f n, all_front (piece_of r false f (suc n)) (piece_of r false (λ k. f (suc k)) n) (λ k. ap (kept_to r (f (suc k))) (end_later f n k)) n, run_pieces (λ k. f (suc k)) n, kept_next (f 0) (up_to (λ k. f (suc k)) n), end_first f n)

  pub pieces : (overlap : Bool) (f : ℕ → View) (n : ℕ) → views_shown overlap r (up_to f n) ≡ all (up_to (piece_of r overlap f n) n)
  pieces true f n = l0_pieces f n
  pieces false f n = run_pieces f n
