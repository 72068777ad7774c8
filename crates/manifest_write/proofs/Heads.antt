-- How long a number and the head of an array or of a bin are at most, whatever they hold. Assumes nothing.
use mathlib.Core.Path.{◌≡◌, sym}
use mathlib.Core.Bool.{Bool, true, false}
use mathlib.Core.List.{List}
use Prim.Native.Nat.{ℕ, ◌+◌, ◌-◌, ◌*◌, ◌≤◌, ◌<◌, ◌^◌}
use native.Mathlib.Omega.{arith}
use lib.Dec.{ltb}
use lib.IntN.{ℤ, pos, negsuc}
use lib.ListN.{length, length-append}
use Rattle.keys.specs.Pick.{pick}
use Rattle.ids.proofs.BigEndian.{length_be_bytes}
use Rattle.msgpack_put.specs.Write.{uint_bytes, minus_bytes, int_bytes, array_bytes, bin_head, bin_bytes}

-- either of two lists is so short
pick_most : (b : Bool) (most : ℕ) (xs ys : List ℕ) → length xs ≤ most → length ys ≤ most → length (pick b xs ys) ≤ most
pick_most true most xs ys h k = h
pick_most false most xs ys h k = k

pub uint_most : (x : ℕ) → length (uint_bytes x) ≤ 9
unfolding uint_bytes
uint_most x =
    pick_most (ltb x 0x80) 9 _ _ (omega arith)
    (pick_most (ltb x 0x100) 9 _ _ (omega (arith, length_be_bytes 1 x))
    (pick_most (ltb x 0x1_0000) 9 _ _ (omega (arith, length_be_bytes 2 x))
    (pick_most (ltb x 0x1_0000_0000) 9 _ _ (omega (arith, length_be_bytes 4 x)) (omega (arith, length_be_bytes 8 x)))))

minus_most : (m : ℕ) → length (minus_bytes m) ≤ 9
unfolding minus_bytes
minus_most m =
    pick_most (ltb m 0x20) 9 _ _ (omega arith)
    (pick_most (ltb m 0x80) 9 _ _ (omega (arith, length_be_bytes 1 (0xff - m)))
    (pick_most (ltb m 0x8000) 9 _ _ (omega (arith, length_be_bytes 2 (0xffff - m)))
    (pick_most (ltb m 0x8000_0000) 9 _ _ (omega (arith, length_be_bytes 4 (0xffff_ffff - m))) (omega (arith, length_be_bytes 8 (0xffff_ffff_ffff_ffff - m))))))

pub int_most : (x : ℤ) → length (int_bytes x) ≤ 9
int_most (pos n) = uint_most n
int_most (negsuc m) = minus_most m

pub array_most : (n : ℕ) → length (array_bytes n) ≤ 5
unfolding array_bytes
array_most n =
    pick_most (ltb n 0x10) 5 _ _ (omega arith)
    (pick_most (ltb n 0x1_0000) 5 _ _ (omega (arith, length_be_bytes 2 n)) (omega (arith, length_be_bytes 4 n)))

head_most : (n : ℕ) → length (bin_head n) ≤ 5
unfolding bin_head
head_most n =
    pick_most (ltb n 0x100) 5 _ _ (omega (arith, length_be_bytes 1 n))
    (pick_most (ltb n 0x1_0000) 5 _ _ (omega (arith, length_be_bytes 2 n)) (omega (arith, length_be_bytes 4 n)))

pub bin_most : (bs : List ℕ) → length (bin_bytes bs) ≤ 5 + length bs
bin_most bs = omega (arith, length-append (bin_head (length bs)) bs, head_most (length bs))

-- the two lengths of a bin
pub bin_length : (k : List ℕ) (h : ℕ) → h ≡ length (bin_head (length k)) → h + length k ≡ length (bin_bytes k)
bin_length k h e = rw e (sym (length-append (bin_head (length k)) k))

pub bin_fits : (k : List ℕ) (h : ℕ) → h ≡ length (bin_head (length k)) → length k * 1 < 2 ^ 63 → h + length k < 2 ^ 64
bin_fits k h e l = omega (arith, head_most (length k))
