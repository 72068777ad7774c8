-- Reading a value of one kind at a place: what it is and the place after it, or the "start of the first wrong value".
--
use Rattle.std.specs.Prelude.{ℕ, ◌+◌, ◌^◌, Bool, List, leb, ltb, eqb, ℤ, pos, negsuc, take, drop, Err, None, Ok, Option, Result, Some}
use Rattle.keys.specs.Pick.{pick}
use Rattle.keys.specs.BigEndian.{be}
use Rattle.msgpack.specs.Head.{head_of}
use Rattle.msgpack.specs.declared.Head.{Head}
use Rattle.msgpack.specs.declared.Head.TheVariants as head

-- "Signed forms of non-negative numbers are read for unsigned fields"; "floats never"; "a number out of its field's range (..): at the number"
unfoldable pub uint_by : ℕ → ℕ → Head → Result (ℕ × ℕ) ℕ
uint_by at most head.Cut = Err at
uint_by at most head.Never = Err at
uint_by at most (head.Nil p) = Err at
uint_by at most (head.Flag b p) = Err at
uint_by at most (head.Uint x p) = pick (leb x most) (Ok (x, p)) (Err at)
uint_by at most (head.Minus m p) = Err at
uint_by at most (head.Bin f n p) = Err at
uint_by at most (head.Other p) = Err at
uint_by at most (head.Array n p) = Err at
uint_by at most (head.Map n p) = Err at

unfoldable pub uint_at : List ℕ → ℕ → ℕ → Result (ℕ × ℕ) ℕ
uint_at s at most = uint_by at most (head_of at (drop at s))

-- "and the other way round": an i64, of a signed or an unsigned form
unfoldable pub int_by : ℕ → Head → Result (ℤ × ℕ) ℕ
int_by at head.Cut = Err at
int_by at head.Never = Err at
int_by at (head.Nil p) = Err at
int_by at (head.Flag b p) = Err at
int_by at (head.Uint x p) = pick (ltb x (2 ^ 63)) (Ok (pos x, p)) (Err at)
int_by at (head.Minus m p) = pick (ltb m (2 ^ 63)) (Ok (negsuc m, p)) (Err at)
int_by at (head.Bin f n p) = Err at
int_by at (head.Other p) = Err at
int_by at (head.Array n p) = Err at
int_by at (head.Map n p) = Err at

unfoldable pub int_at : List ℕ → ℕ → Result (ℤ × ℕ) ℕ
int_at s at = int_by at (head_of at (drop at s))

-- "initialized is c2 or c3 only"
unfoldable pub flag_by : ℕ → Head → Result (Bool × ℕ) ℕ
flag_by at head.Cut = Err at
flag_by at head.Never = Err at
flag_by at (head.Nil p) = Err at
flag_by at (head.Flag b p) = Ok (b, p)
flag_by at (head.Uint x p) = Err at
flag_by at (head.Minus m p) = Err at
flag_by at (head.Bin f n p) = Err at
flag_by at (head.Other p) = Err at
flag_by at (head.Array n p) = Err at
flag_by at (head.Map n p) = Err at

unfoldable pub flag_at : List ℕ → ℕ → Result (Bool × ℕ) ℕ
flag_at s at = flag_by at (head_of at (drop at s))

-- "ids, keys, names and paths are bin": where the bytes start, how many they are
unfoldable pub bin_by : ℕ → Head → Result (ℕ × ℕ × ℕ) ℕ
bin_by at head.Cut = Err at
bin_by at head.Never = Err at
bin_by at (head.Nil p) = Err at
bin_by at (head.Flag b p) = Err at
bin_by at (head.Uint x p) = Err at
bin_by at (head.Minus m p) = Err at
bin_by at (head.Bin f n p) = Ok (f, n, p)
bin_by at (head.Other p) = Err at
bin_by at (head.Array n p) = Err at
bin_by at (head.Map n p) = Err at

unfoldable pub bin_at : List ℕ → ℕ → Result (ℕ × ℕ × ℕ) ℕ
bin_at s at = bin_by at (head_of at (drop at s))

-- "an array too short is itself wrong": an array of at least so many elements
unfoldable pub group_by : ℕ → ℕ → Head → Result (ℕ × ℕ) ℕ
group_by at least head.Cut = Err at
group_by at least head.Never = Err at
group_by at least (head.Nil p) = Err at
group_by at least (head.Flag b p) = Err at
group_by at least (head.Uint x p) = Err at
group_by at least (head.Minus m p) = Err at
group_by at least (head.Bin f n p) = Err at
group_by at least (head.Other p) = Err at
group_by at least (head.Array n p) = pick (leb least n) (Ok (n, p)) (Err at)
group_by at least (head.Map n p) = Err at

unfoldable pub group_at : List ℕ → ℕ → ℕ → Result (ℕ × ℕ) ℕ
group_at s at least = group_by at least (head_of at (drop at s))

-- "nil for a list: at the nil": a list is an array of any count
abbrev pub list_at : List ℕ → ℕ → Result (ℕ × ℕ) ℕ
list_at s at = group_at s at 0

-- "absent is nil": whether what may be absent is, with the place after it
unfoldable pub optional_by : Head → Option ℕ
optional_by head.Cut = None
optional_by head.Never = None
optional_by (head.Nil p) = Some p
optional_by (head.Flag b p) = None
optional_by (head.Uint x p) = None
optional_by (head.Minus m p) = None
optional_by (head.Bin f n p) = None
optional_by (head.Other p) = None
optional_by (head.Array n p) = None
optional_by (head.Map n p) = None

unfoldable pub optional_at : List ℕ → ℕ → Option ℕ
optional_at s at = optional_by (head_of at (drop at s))

-- on from what was read, if it was: `wrong` takes the place where it was not
module _ {B : Type 0} (wrong : ℕ → B) where
  abbrev pub on_uint : Result (ℕ × ℕ) ℕ → (ℕ → ℕ → B) → B
  on_uint (Ok (x, p)) k = k x p
  on_uint (Err q) k = wrong q

  abbrev pub on_int : Result (ℤ × ℕ) ℕ → (ℤ → ℕ → B) → B
  on_int (Ok (x, p)) k = k x p
  on_int (Err q) k = wrong q

  abbrev pub on_flag : Result (Bool × ℕ) ℕ → (Bool → ℕ → B) → B
  on_flag (Ok (b, p)) k = k b p
  on_flag (Err q) k = wrong q

  abbrev pub on_bin : Result (ℕ × ℕ × ℕ) ℕ → (ℕ → ℕ → ℕ → B) → B
  on_bin (Ok (f, n, p)) k = k f n p
  on_bin (Err q) k = wrong q

  abbrev pub on_id : Result (ℕ × ℕ × ℕ) ℕ → (ℕ → ℕ → ℕ → B) → B
  on_id (Ok (hi, lo, p)) k = k hi lo p
  on_id (Err q) k = wrong q

  abbrev pub on_group : Result (ℕ × ℕ) ℕ → (ℕ → ℕ → B) → B
  on_group (Ok (n, p)) k = k n p
  on_group (Err q) k = wrong q

  abbrev pub on_skipped : Result ℕ ℕ → (ℕ → B) → B
  on_skipped (Ok p) k = k p
  on_skipped (Err q) k = wrong q

-- what is there, or nothing and the place after it
abbrev pub on_optional : {B : Type 0} → Option ℕ → (ℕ → B) → B → B
on_optional (Some p) none some = none p
on_optional None none some = some

-- "an id that is not 16 bytes: at the bin": the two halves of a bin of 16 bytes
unfoldable pub id_at : List ℕ → ℕ → Result (ℕ × ℕ × ℕ) ℕ
id_at s at = on_bin Err (bin_at s at) λ f n p. pick (eqb n 16) (Ok (be (take 8 (drop f s)), be (take 8 (drop (f + 8) s)), p)) (Err at)
