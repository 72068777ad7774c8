-- How long what is written is.
use mathlib.Core.Path.{◌≡◌, ◌∙◌}
use mathlib.Core.List.{List, ◌++◌}
use Prim.Native.Nat.{ℕ, ◌+◌, ◌^◌, ◌≤◌, ◌<◌}
use native.Mathlib.Omega.{arith}
use borrow.Author.Tests.{lt-ltb, le-ltb}
use lib.IntN.{ℤ, pos, negsuc}
use lib.ListN.{length, length-append}
use mathlib.Core.Logic.{inl, inr, ⊎_elim}
use mir.Syntax.{w64}
use mir.Val.{SFits}
use Rattle.keys.specs.BigEndian.{be_bytes}
use Rattle.ids.proofs.BigEndian.{length_be_bytes}
use Rattle.msgpack.proofs.Ahead.{split}
use Rattle.msgpack_put.specs.Write.{uint_bytes, minus_bytes, int_bytes, array_bytes, bin_head, bin_bytes, id_part}
use Rattle.msgpack_put.proofs.Puts.{id_length}
use Rattle.msgpack_put.proofs.Round.{Negative, shape_length, uint_shape, minus_shape}

-- a number takes one byte to nine
abbrev pub Nine : List ℕ → Type 0
Nine bs = (0 < length bs) × (length bs ≤ 9)

pub uint_size : (x : ℕ) → x < 2 ^ 64 → Nine (uint_bytes x)
uint_size x fits = shape_length (uint_shape x fits).1

negative_size : (m : ℕ) (bs : List ℕ) → Negative m bs → Nine bs
negative_size m bs (inl s) = shape_length s
negative_size m bs (inr (n, h, s)) = shape_length s

pub int_size : (x : ℤ) → SFits w64 x → Nine (int_bytes x)
int_size (pos n) fits = let h : n < 2 ^ 63 = fits.sfits in uint_size n (omega arith)
int_size (negsuc m) fits = negative_size m (minus_bytes m) (minus_shape m fits.sfits)

-- a u32, five bytes at most
pub uint_size_32 : (x : ℕ) → x < 2 ^ 32 → length (uint_bytes x) ≤ 5
unfolding uint_bytes
uint_size_32 x fits =
    ⊎_elim (λ h. rw (lt-ltb x 0x80 h) (omega arith))
    (λ a. ⊎_elim (λ h. rw (le-ltb x 0x80 a, lt-ltb x 0x100 h) (omega (arith, length_be_bytes 1 x)))
    (λ b. ⊎_elim (λ h. rw (le-ltb x 0x80 a, le-ltb x 0x100 b, lt-ltb x 0x1_0000 h) (omega (arith, length_be_bytes 2 x)))
    (λ c. rw (le-ltb x 0x80 a, le-ltb x 0x100 b, le-ltb x 0x1_0000 c, lt-ltb x 0x1_0000_0000 fits) (omega (arith, length_be_bytes 4 x)))
    (split x 0x1_0000)) (split x 0x100)) (split x 0x80)

-- an array's head: one byte below 16 elements, three below 65,536
pub array_size : (n : ℕ) → n < 0x10 → length (array_bytes n) ≡ 1
unfolding array_bytes
array_size n h = simp (lt-ltb n 0x10 h)

pub array_size_16 : (n : ℕ) → n < 0x1_0000 → length (array_bytes n) ≤ 3
unfolding array_bytes
array_size_16 n fits =
    ⊎_elim (λ h. rw (lt-ltb n 0x10 h) (omega arith))
    (λ a. rw (le-ltb n 0x10 a, lt-ltb n 0x1_0000 fits) (omega (arith, length_be_bytes 2 n)))
    (split n 0x10)

-- a bin of up to 255 bytes takes two more
pub bin_size : (bs : List ℕ) → length bs < 0x100 → length (bin_bytes bs) ≡ 2 + length bs
unfolding bin_head
bin_size bs h =
    length-append (bin_head (length bs)) bs
    ∙ simp (lt-ltb (length bs) 0x100 h) (omega (arith, length_be_bytes 1 (length bs)))

pub id_size : (hi lo : ℕ) → length (id_part hi lo) ≡ 18
id_size hi lo = bin_size (be_bytes 8 hi ++ be_bytes 8 lo) (omega (arith, id_length hi lo)) ∙ omega (arith, id_length hi lo)
