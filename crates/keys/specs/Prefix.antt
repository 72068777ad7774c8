-- Prefixes: what begins with what, and a prefix's successor.
use Rattle.std.specs.Prelude.{ℕ, ◌+◌, ◌<◌, List, [], ◌∷◌, Bool, true, false, ◌&&◌, ltb, eqb, length, take, None, Option, Some}
use Rattle.keys.specs.Pick.{pick}
use Rattle.keys.specs.Key.{Below, less_of}

-- every element is a byte
pub data Bytes : List ℕ → Type 0 where
  none : Bytes []
  one : {x : ℕ} {a : List ℕ} → x < 256 → Bytes a → Bytes (x ∷ a)

-- the prefix p begins the key k
pub data Begins : List ℕ → List ℕ → Type 0 where
  none : {k : List ℕ} → Begins [] k
  next : {x : ℕ} {p k : List ℕ} → Begins p k → Begins (x ∷ p) (x ∷ k)

-- the same as a test
unfoldable pub begins_of : List ℕ → List ℕ → Bool
begins_of [] k = true
begins_of (x ∷ p) [] = false
begins_of (x ∷ p) (y ∷ k) = eqb x y && begins_of p k

-- where a range of keys ends: nowhere, or just before a key
pub data Top : Type 0 where
  nowhere : Top
  at : List ℕ → Top

pub data Under (k : List ℕ) : Top → Type 0 where
  free : Under k nowhere
  under : {h : List ℕ} → Below k h → Under k (at h)

abbrev pub under_of : List ℕ → Top → Bool
under_of k nowhere = true
under_of k (at h) = less_of k h

-- "excluded successor: drop trailing FF bytes and add one to the last byte; unbounded for no byte left"
-- "drop trailing FF bytes": a byte before others that are left stays, and one that none is left after goes where it is FF
abbrev pub keep_before : ℕ → List ℕ → List ℕ
keep_before x [] = pick (ltb x 255) (x ∷ []) []
keep_before x (y ∷ q) = x ∷ y ∷ q

abbrev pub without_ff : List ℕ → List ℕ
without_ff [] = []
without_ff (x ∷ p) = keep_before x (without_ff p)

-- "and add one to the last byte"
abbrev pub add_one : ℕ → List ℕ → List ℕ
add_one x [] = (x + 1) ∷ []
add_one x (y ∷ q) = x ∷ add_one y q

-- "unbounded for no byte left"
abbrev pub last_up : List ℕ → Top
last_up [] = nowhere
last_up (x ∷ q) = at (add_one x q)

unfoldable pub after : List ℕ → Top
after p = last_up (without_ff p)

-- The same as the code answers it: how many bytes are left.
abbrev pub left_of : List ℕ → Option ℕ
left_of [] = None
left_of (x ∷ q) = Some (length (x ∷ q))

unfoldable pub successor_of : List ℕ → Option ℕ
successor_of p = left_of (without_ff p)

-- what that says of p: its first n bytes, the last of them one more
abbrev pub grown_top : List ℕ → Option ℕ → Top
grown_top p None = nowhere
grown_top p (Some n) = last_up (take n p)
