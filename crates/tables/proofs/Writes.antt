-- Laws of `write` and `over`: one part after another. Assumes nothing.
use mathlib.Core.Path.{◌≡◌, sym, ap, ◌∙◌}
use mathlib.Core.List.{List, [], ◌++◌, append_assoc}
use Prim.Native.Nat.{ℕ, ◌+◌, ◌≤◌}
use native.Mathlib.Omega.{arith}
use native.Mathlib.Nat.{add-zero, add_assoc, zero-add}
use lib.ListN.{length, take, drop, length-append, length-take, length-drop, take-append-drop}
use lib.Seq.{take-append_seam, length-take-le, drop-drop, drop-append-add}
use Rattle.tables.specs.Layout.{write, over}

pub write_none : (d : List ℕ) (from : ℕ) → write d from [] ≡ d
write_none d from = rw add-zero (take-append-drop from d)

pub write_length : (d : List ℕ) (from : ℕ) (xs : List ℕ) → from + length xs ≤ length d → length (write d from xs) ≡ length d
write_length d from xs h = simp (length-append, length-take, length-drop) (omega arith)

-- two writes that meet are one
pub write_write : (d : List ℕ) (from : ℕ) (xs ys : List ℕ) → from ≤ length d → write (write d from xs) (from + length xs) ys ≡ write d from (xs ++ ys)
write_write d from xs ys h =
    let t : length (take from d) ≡ from = length-take-le from d h in
    let p = take from d ++ xs in
    let r = drop (from + length xs) d in
    let l : length p ≡ from + length xs = length-append (take from d) xs ∙ ap (λ (n : ℕ). n + length xs) t in
    let e : write d from xs ≡ p ++ r = sym (append_assoc (take from d) xs r) in
    ap (λ (z : List ℕ). write z (from + length xs) ys) e
    ∙ ap (λ (n : ℕ). take n (p ++ r) ++ (ys ++ drop (n + length ys) (p ++ r))) (sym l)
    ∙ rw (take-append_seam p r, drop-append-add p r (length ys), drop-drop (length ys) (from + length xs) d, length-append xs ys, append_assoc (take from d) xs, append_assoc xs ys, add_assoc)

-- the same by equations: one more part after what was written
pub then : (d₀ d₁ d₂ : List ℕ) (from n : ℕ) (xs ys : List ℕ) → from ≤ length d₀ → d₁ ≡ write d₀ from xs → n ≡ from + length xs → d₂ ≡ write d₁ n ys → d₂ ≡ write d₀ from (xs ++ ys)
then d₀ d₁ d₂ from n xs ys h e m f = f ∙ rw (m, e) (write_write d₀ from xs ys h)

-- what is written at the front is laid over
pub write_front : (d xs : List ℕ) → write d 0 xs ≡ over d xs
write_front d xs = rw zero-add
