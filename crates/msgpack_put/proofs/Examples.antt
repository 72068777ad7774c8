-- Worked examples, which antt computes.
use Rattle.std.specs.Prelude.{Err, Ok}
use mathlib.Core.Path.{◌≡◌, refl}
use mathlib.Core.Bool.{true}
use mathlib.Core.List.{List, [], ◌∷◌, ◌++◌}
use Prim.Native.Nat.{ℕ}
use lib.IntN.{negsuc}
use lib.ListN.{replicate}
use Rattle.keys.specs.BigEndian.{be_from, be_bytes}
use Rattle.msgpack.specs.Form.{form_of}
use Rattle.msgpack.specs.Head.{kind_head, head_by, head_of}
use Rattle.msgpack.specs.Skip.{many_of, skip_head, value_of, whole_of}
use Rattle.msgpack.specs.declared.Head.TheVariants as head
use Rattle.msgpack_put.specs.Write.{uint_bytes, minus_bytes, int_bytes, array_bytes, bin_head, bin_bytes}

-- ---- heads, as the public specification draws them

-- nil
nil : head_of 0 (0xc0 ∷ []) ≡ head.Nil 1
unfolding head_of head_by kind_head form_of be_from
nil = refl

-- true
yes : head_of 0 (0xc3 ∷ []) ≡ head.Flag true 1
unfolding head_of head_by kind_head form_of be_from
yes = refl

-- positive fixint: 0XXXXXXX is an 8-bit unsigned integer
fixint : head_of 0 (0x7f ∷ []) ≡ head.Uint 127 1
unfolding head_of head_by kind_head form_of be_from
fixint = refl

-- negative fixint: 111YYYYY is an 8-bit signed integer, here -32
negative_fixint : head_of 0 (0xe0 ∷ []) ≡ head.Minus 31 1
unfolding head_of head_by kind_head form_of be_from
negative_fixint = refl

-- uint 16 is a 16-bit big-endian unsigned integer
uint_16 : head_of 0 (0xcd ∷ 0x01 ∷ 0x00 ∷ []) ≡ head.Uint 256 3
unfolding head_of head_by kind_head form_of be_from
uint_16 = refl

-- int 8 is an 8-bit signed integer, here -128; and one that is not negative
int_8 : head_of 0 (0xd0 ∷ 0x80 ∷ []) ≡ head.Minus 127 2
unfolding head_of head_by kind_head form_of be_from
int_8 = refl

int_8_plus : head_of 0 (0xd0 ∷ 0x7f ∷ []) ≡ head.Uint 127 2
unfolding head_of head_by kind_head form_of be_from
int_8_plus = refl

-- bin 8 stores a byte array whose length is up to 255 bytes
bin_8 : head_of 0 (0xc4 ∷ 0x02 ∷ 0xaa ∷ 0xbb ∷ []) ≡ head.Bin 2 2 4
unfolding head_of head_by kind_head form_of be_from
bin_8 = refl

-- timestamp 32: fixext 4 of type -1; timestamp 96: ext 8 of 12 bytes of type -1
timestamp_32 : head_of 0 (0xd6 ∷ 0xff ∷ 0x00 ∷ 0x00 ∷ 0x00 ∷ 0x01 ∷ []) ≡ head.Other 6
unfolding head_of head_by kind_head form_of be_from
timestamp_32 = refl

timestamp_96 : head_of 0 (0xc7 ∷ 0x0c ∷ 0xff ∷ replicate 12 0) ≡ head.Other 15
unfolding head_of head_by kind_head form_of be_from
timestamp_96 = refl

-- cut short, more bytes could mend it; c1 no bytes mend
cut : head_of 0 (0xcd ∷ 0x01 ∷ []) ≡ head.Cut
unfolding head_of head_by kind_head form_of be_from
cut = refl

never : head_of 0 (0xc1 ∷ 0x01 ∷ []) ≡ head.Never
unfolding head_of head_by kind_head form_of be_from
never = refl

-- ---- whole inputs

-- the example of msgpack.org, {"compact":true,"schema":0}, in 18 bytes
compact : List ℕ
compact =
    0x82 ∷ 0xa7 ∷ 0x63 ∷ 0x6f ∷ 0x6d ∷ 0x70 ∷ 0x61 ∷ 0x63 ∷ 0x74 ∷ 0xc3 ∷ 0xa6 ∷ 0x73 ∷ 0x63 ∷ 0x68 ∷ 0x65 ∷ 0x6d ∷ 0x61 ∷ 0x00 ∷ []

compact_whole : whole_of compact ≡ Ok tt
unfolding compact whole_of value_of skip_head many_of head_of head_by kind_head form_of be_from
compact_whole = refl

-- the new manifest
new : List ℕ
new =
    0x9c ∷ 0xc3 ∷ 0x94 ∷ 0xc0 ∷ 0xc0 ∷ 0x90 ∷ 0x90 ∷ 0x90 ∷ 0xc0 ∷ 0x01 ∷ 0x00 ∷ 0xd3 ∷ 0x80 ∷ 0x00 ∷ 0x00 ∷ 0x00 ∷ 0x00 ∷ 0x00 ∷ 0x00 ∷ 0x00
    ∷ 0x00 ∷ 0x00 ∷ 0x90 ∷ 0x00 ∷ 0x00 ∷ []

new_whole : whole_of new ≡ Ok tt
unfolding new whole_of value_of skip_head many_of head_of head_by kind_head form_of be_from
new_whole = refl

-- "the missing one starts at the end", and so does the whole of an empty input
places : (whole_of [] ≡ Err 0) × (whole_of (0x93 ∷ 0x01 ∷ []) ≡ Err 2) × (whole_of (0x81 ∷ 0x01 ∷ []) ≡ Err 2)
unfolding whole_of value_of skip_head many_of head_of head_by kind_head form_of be_from
places = (refl, refl, refl)

-- a cut value is bad at its own first byte, and so is c1; what is left over is bad at its start
starts : (whole_of (0x92 ∷ 0xc4 ∷ 0x05 ∷ 0x01 ∷ []) ≡ Err 1) × (whole_of (0xdf ∷ 0x00 ∷ []) ≡ Err 0) × (whole_of (0x92 ∷ 0x01 ∷ 0xc1 ∷ []) ≡ Err 2) × (whole_of (0xc0 ∷ 0xc0 ∷ []) ≡ Err 1)
unfolding whole_of value_of skip_head many_of head_of head_by kind_head form_of be_from
starts = (refl, refl, refl, refl)

-- a scalar inside depth 16 is fine; an array that would be depth 17 is bad at its start, empty or not
depth : (whole_of (replicate 16 0x91 ++ (0xc0 ∷ [])) ≡ Ok tt) × (whole_of (replicate 16 0x91 ++ (0x90 ∷ [])) ≡ Err 16) × (whole_of (replicate 17 0x91 ++ (0xc0 ∷ [])) ≡ Err 16)
unfolding whole_of value_of skip_head many_of head_of head_by kind_head form_of be_from
depth = (refl, refl, refl)

-- an array of 4,294,967,295 elements, of which one is there
huge : whole_of (0xdd ∷ 0xff ∷ 0xff ∷ 0xff ∷ 0xff ∷ 0xc0 ∷ []) ≡ Err 6
unfolding whole_of value_of skip_head many_of head_of head_by kind_head form_of be_from
huge = refl

-- ---- the shortest forms

shortest : (uint_bytes 127 ≡ 0x7f ∷ []) × (uint_bytes 128 ≡ 0xcc ∷ 0x80 ∷ []) × (uint_bytes 65536 ≡ 0xce ∷ 0x00 ∷ 0x01 ∷ 0x00 ∷ 0x00 ∷ [])
unfolding uint_bytes be_bytes
shortest = (refl, refl, refl)

-- -32, -33 and the least i64
shortest_minus : (int_bytes (negsuc 31) ≡ 0xe0 ∷ []) × (int_bytes (negsuc 32) ≡ 0xd0 ∷ 0xdf ∷ []) × (int_bytes (negsuc 0x7fff_ffff_ffff_ffff) ≡ 0xd3 ∷ 0x80 ∷ replicate 7 0)
unfolding minus_bytes be_bytes
shortest_minus = (refl, refl, refl)

shortest_heads : (array_bytes 12 ≡ 0x9c ∷ []) × (array_bytes 16 ≡ 0xdc ∷ 0x00 ∷ 0x10 ∷ []) × (bin_bytes (0x61 ∷ []) ≡ 0xc4 ∷ 0x01 ∷ 0x61 ∷ [])
unfolding array_bytes bin_head be_bytes
shortest_heads = (refl, refl, refl)
