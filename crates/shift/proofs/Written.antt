-- What is read from a table in which some words were written. Assumes nothing.
use Prim.Native.Nat.{ℕ, ◌+◌, ◌≤◌, ◌<◌}
use mathlib.Core.Path.{◌≡◌, sym, ap, ◌∙◌}
use mathlib.Core.List.{List, ◌++◌}
use lib.ListN.{length, get_or, take, drop, get_or-append}
use lib.Seq.{length-take-le, get_or-take, get_or-append-add, get_or-drop}
use Rattle.tables.specs.Layout.{write}

module _ (d : List ℕ) (from : ℕ) (xs : List ℕ) (i : ℕ) (l : from ≤ length d) where
  pub write_before : i < from → get_or (write d from xs) i 0 ≡ get_or d i 0
  write_before h = get_or-append (take from d) (xs ++ drop (from + length xs) d) 0 i (rw (length-take-le from d l) h) ∙ get_or-take from d i 0 h

  at_from : (ys : List ℕ) → get_or (take from d ++ ys) (from + i) 0 ≡ get_or ys i 0
  at_from ys = ap (λ (n : ℕ). get_or (take from d ++ ys) (n + i) 0) (sym (length-take-le from d l)) ∙ get_or-append-add (take from d) ys i 0

  pub write_in : i < length xs → get_or (write d from xs) (from + i) 0 ≡ get_or xs i 0
  write_in h = at_from (xs ++ drop (from + length xs) d) ∙ get_or-append xs (drop (from + length xs) d) 0 i h

pub write_behind : (d : List ℕ) (from : ℕ) (xs : List ℕ) (w i : ℕ) → length xs ≡ w → from ≤ length d → get_or (write d from xs) (from + (w + i)) 0 ≡ get_or d (from + w + i) 0
write_behind d from xs w i e l =
    rw (← e)
    (at_from d from xs (length xs + i) l (xs ++ drop (from + length xs) d) ∙ get_or-append-add xs (drop (from + length xs) d) i 0 ∙ get_or-drop (from + length xs) d i 0)
