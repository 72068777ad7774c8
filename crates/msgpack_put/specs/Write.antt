-- What is written: "writing uses the shortest, non-negative numbers unsigned".
use Rattle.std.specs.Prelude.{◌≡◌, ℕ, ◌+◌, ◌-◌, Bool, true, false, List, [], ◌∷◌, ◌++◌, ltb, ℤ, pos, negsuc, length}
use Rattle.std.proofs.lemmas.List.Edits.{sets}
use Rattle.keys.specs.Pick.{pick}
use Rattle.keys.specs.BigEndian.{be_bytes}
use Rattle.ids.specs.Id.{id_bytes}
use Rattle.msgpack_put.specs.declared.Head.{Head}
use Rattle.msgpack_put.specs.declared.Head.TheVariants.{Nil, Flag, Uint, Minus, Array, Bin}
use Rattle.msgpack_put.specs.declared.Tagged.{Tagged}

-- a number that is not negative: "00-7f positive fixint: the value is the byte", "cc, cd, ce, cf uint 8, 16, 32, 64: 1, 2, 4, 8 bytes"
unfoldable pub uint_bytes : ℕ → List ℕ
uint_bytes x =
    pick (ltb x 0x80) (x ∷ [])
    (pick (ltb x 0x100) (0xcc ∷ be_bytes 1 x)
    (pick (ltb x 0x1_0000) (0xcd ∷ be_bytes 2 x)
    (pick (ltb x 0x1_0000_0000) (0xce ∷ be_bytes 4 x)
    (0xcf ∷ be_bytes 8 x))))

-- the number -1 - m: "e0-ff negative fixint: the value is the byte less 256", "d0, d1, d2, d3 int 8, 16, 32, 64: 1, 2, 4, 8 bytes,
-- two's complement"
unfoldable pub minus_bytes : ℕ → List ℕ
minus_bytes m =
    pick (ltb m 0x20) ((0xff - m) ∷ [])
    (pick (ltb m 0x80) (0xd0 ∷ be_bytes 1 (0xff - m))
    (pick (ltb m 0x8000) (0xd1 ∷ be_bytes 2 (0xffff - m))
    (pick (ltb m 0x8000_0000) (0xd2 ∷ be_bytes 4 (0xffff_ffff - m))
    (0xd3 ∷ be_bytes 8 (0xffff_ffff_ffff_ffff - m)))))

-- an i64; `negsuc m` is -1 - m
abbrev pub int_bytes : ℤ → List ℕ
int_bytes (pos n) = uint_bytes n
int_bytes (negsuc m) = minus_bytes m

-- "c2, c3 false, true"
abbrev pub flag_bytes : Bool → List ℕ
flag_bytes false = 0xc2 ∷ []
flag_bytes true = 0xc3 ∷ []

-- "c0 nil"
abbrev pub nil_bytes : List ℕ
nil_bytes = 0xc0 ∷ []

-- the head of an array of n elements: "90-9f fixarray: N = low 4 bits", "dc, dd array 16, 32: N in 2, 4 bytes"
unfoldable pub array_bytes : ℕ → List ℕ
array_bytes n = pick (ltb n 0x10) ((0x90 + n) ∷ []) (pick (ltb n 0x1_0000) (0xdc ∷ be_bytes 2 n) (0xdd ∷ be_bytes 4 n))

-- what stands before the n bytes of a bin: "c4, c5, c6 bin 8, 16, 32: N in 1, 2, 4 bytes"
unfoldable pub bin_head : ℕ → List ℕ
bin_head n = pick (ltb n 0x100) (0xc4 ∷ be_bytes 1 n) (pick (ltb n 0x1_0000) (0xc5 ∷ be_bytes 2 n) (0xc6 ∷ be_bytes 4 n))

-- what of these a head stands for
abbrev pub head_bytes : Head → List ℕ
head_bytes Nil = nil_bytes
head_bytes (Flag b) = flag_bytes b
head_bytes (Uint x) = uint_bytes x
head_bytes (Minus m) = minus_bytes m
head_bytes (Array n) = array_bytes n
head_bytes (Bin n) = bin_head n

-- "ids, keys, names and paths are bin"
abbrev pub bin_bytes : List ℕ → List ℕ
bin_bytes bs = bin_head (length bs) ++ bs

-- an id, by its halves
abbrev pub id_part : ℕ → ℕ → List ℕ
id_part hi lo = bin_bytes (id_bytes hi lo)

unfoldable pub concat : List (List ℕ) → List ℕ
concat [] = []
concat (b ∷ bs) = b ++ concat bs

-- "Records are arrays": an array of its parts, for records and lists alike
abbrev pub group_bytes : List (List ℕ) → List ℕ
group_bytes parts = array_bytes (length parts) ++ concat parts

-- a first byte, and a number in so many bytes
abbrev pub tagged_bytes : Tagged → List ℕ
tagged_bytes t = t.0 ∷ be_bytes t.1 t.2

-- `bs` was stored at `at` in d, which is d' now; p is the place after it
abbrev pub Put : List ℕ → ℕ → List ℕ → ℕ → List ℕ → Type 0
Put d at bs p d' = (p ≡ at + length bs) × (d' ≡ sets d at bs)
