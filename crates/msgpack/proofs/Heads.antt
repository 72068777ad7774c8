-- The head of a part of a slice, from what the code has in hand.
--
use mathlib.Core.Path.{◌≡◌, sym, ap, ap₂, ◌∙◌}
use mathlib.Core.List.{List}
use Prim.Native.Nat.{ℕ, suc, ◌+◌, ◌-◌, ◌≤◌, ◌<◌}
use native.Mathlib.Numerals.{add-one}
use native.Mathlib.Omega.{arith}
use borrow.Author.Tests.{le-leb, lt-leb}
use lib.ListN.{length, get_or, drop, length-drop}
use lib.Seq.{drop-cons}
use Rattle.msgpack.specs.Form.{form_of}
use Rattle.msgpack.specs.Head.{arg_of, kind_head, head_by, head_of}
use Rattle.msgpack.specs.declared.Form.{Form}
use Rattle.msgpack.specs.declared.Head.TheVariants.{Cut}

-- one byte, and what follows it
pub head_cons : (s : List ℕ) (at : ℕ) (f : Form) → at < length s → f ≡ form_of (get_or s at 0) → head_of at (drop at s) ≡ head_by at f (drop (at + 1) s)
unfolding head_of
head_cons s at f h e = rw (add-one, drop-cons s at 0 h) (ap (λ (g : Form). head_by at g (drop (suc at) s)) (sym e))

-- a whole head
pub head_whole : (s : List ℕ) (at : ℕ) (f : Form) (x : ℕ) → at < length s → f ≡ form_of (get_or s at 0) → at + 1 + f.1 ≤ length s
    → x ≡ arg_of f.1 f.2 (drop (at + 1) s)
    → head_of at (drop at s) ≡ kind_head f.0 f.2 x (at + 1 + f.1) (length s - (at + 1 + f.1))
unfolding head_by
head_whole s at f x h e fits a =
    let k : f.1 ≤ length (drop (at + 1) s) = simp length-drop (omega arith) in
    let l : length (drop (at + 1) s) - f.1 ≡ length s - (at + 1 + f.1) = simp length-drop (omega arith) in
    head_cons s at f h e
    ∙ simp (le-leb _ _ k) (ap₂ (λ (y l : ℕ). kind_head f.0 f.2 y (at + 1 + f.1) l) (sym a) l)

-- a head cut short
pub head_short : (s : List ℕ) (at : ℕ) (f : Form) → at < length s → f ≡ form_of (get_or s at 0) → length s < at + 1 + f.1 → head_of at (drop at s) ≡ Cut
unfolding head_by
head_short s at f h e short =
    let k : length (drop (at + 1) s) < f.1 = simp length-drop (omega arith) in
    head_cons s at f h e ∙ simp (lt-leb _ _ k)
