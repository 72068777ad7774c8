-- Laws of `laid`: rows are laid from a cursor on, each where those before it end. Assumes nothing.
use Prim.Native.Nat.{ℕ, ◌+◌, ◌*◌}
use mathlib.Core.Path.{◌≡◌, refl, sym, ap, ◌∙◌}
use mathlib.Core.List.{List, [], ◌∷◌, ◌++◌, append_assoc, append-nil}
use native.Mathlib.Omega.{arith}
use lib.ListN.{length, length-append}
use Rattle.tables.specs.Layout.{joined}
use Rattle.records.specs.Fill.{empty, plus, sum}
use Rattle.records.specs.Layout.{laid}
use Rattle.records.specs.declared.Fill.{Fill}
use Rattle.records.proofs.Sums.{plus_assoc, plus_empty}

-- the same bytes, wherever they are laid
pub laid_joined : {A : Type 0} (fill : A → Fill) (f : A → List ℕ) (c : Fill) (xs : List A) → laid fill (λ d x. f x) c xs ≡ joined f xs
laid_joined fill f c [] = refl
laid_joined fill f c (x ∷ xs) = rw (laid_joined fill f (plus c (fill x)) xs)

module _ {A : Type 0} (fill : A → Fill) (words : Fill → A → List ℕ) where
  pub laid_append : (c : Fill) (xs ys : List A) → laid fill words c (xs ++ ys) ≡ laid fill words c xs ++ laid fill words (plus c (sum fill xs)) ys
  laid_append c [] ys = rw (plus_empty c)
  laid_append c (x ∷ xs) ys =
      rw (laid_append (plus c (fill x)) xs ys, plus_assoc c (fill x) (sum fill xs))
      (sym (append_assoc (words c x) (laid fill words (plus c (fill x)) xs) (laid fill words (plus c (plus (fill x) (sum fill xs))) ys)))

pub data Table : Type 0 where
  segments : Table
  views : Table
  runs : Table
  borrows : Table
  ids : Table
  pool : Table

-- where a cursor stands in a table: words, or bytes
abbrev pub at : Table → Fill → ℕ
at segments c = c.segments * 12
at views c = c.views * 16
at runs c = c.runs * 3
at borrows c = c.borrows * 9
at ids c = c.ids * 2
at pool c = c.bytes

pub at_plus : (t : Table) (a b : Fill) → at t (plus a b) ≡ at t a + at t b
at_plus segments a b = omega arith
at_plus views a b = omega arith
at_plus runs a b = omega arith
at_plus borrows a b = omega arith
at_plus ids a b = omega arith
at_plus pool a b = refl

pub at_empty : (t : Table) → at t empty ≡ 0
at_empty segments = omega arith
at_empty views = omega arith
at_empty runs = omega arith
at_empty borrows = omega arith
at_empty ids = omega arith
at_empty pool = refl

-- what records of one kind write into one table: as many words as they fill
pub record Column {A : Type 0} (fill : A → Fill) : Type 0 where
  pub table : Table
  pub words : Fill → A → List ℕ
  pub long : (c : Fill) (x : A) → length (words c x) ≡ at table (fill x)

-- the words of some records, from a cursor on
abbrev pub column : {A : Type 0} {fill : A → Fill} → Column fill → Fill → List A → List ℕ
column {A} {fill} col c xs = laid fill col.words c xs

module _ {A : Type 0} {fill : A → Fill} (col : Column fill) where
  pub column_long : (c : Fill) (xs : List A) → length (column col c xs) ≡ at col.table (sum fill xs)
  column_long c [] = sym (at_empty col.table)
  column_long c (x ∷ xs) = rw (length-append, col.long c x, column_long (plus c (fill x)) xs, at_plus col.table (fill x) (sum fill xs))

  pub column_more : (c : Fill) (xs : List A) (x : A) → column col c (xs ++ (x ∷ [])) ≡ column col c xs ++ col.words (plus c (sum fill xs)) x
  column_more c xs x =
      laid_append fill col.words c xs (x ∷ [])
      ∙ ap (λ (l : List ℕ). column col c xs ++ l) (append-nil (col.words (plus c (sum fill xs)) x))
