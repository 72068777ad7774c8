-- THE INTEGER LAW, over the width: n bytes, the most significant first, hold each number below 256 ^ n, and order as the
-- numbers do. Assumes nothing.
use mathlib.Core.Path.{◌≡◌, refl, sym, ap, ◌∙◌}
use mathlib.Core.Logic.{◌⊎◌}
use mathlib.Core.Logic.◌⊎◌.{inl, inr}
use mathlib.Core.Bool.{Bool, true, false}
use mathlib.Core.List.{List, [], ◌∷◌, ◌++◌, append_assoc, append-nil}
use Prim.Native.Nat.{ℕ, zero, suc, ◌+◌, ◌*◌, ◌/◌, ◌%◌, ◌^◌, ◌≤◌, ◌<◌}
use native.Mathlib.Nat.{pow-suc, div-add-mod', div-lt_iff_lt-mul, mod-lt}
use native.Mathlib.Numerals.{add-one}
use native.Mathlib.Omega.{arith}
use lib.Arith.{digits_lt, digits_div, digits_mod}
use lib.Dec.{lit<, ltb}
use lib.ListN.{length, get_or, take, drop, length-append}
use lib.Seq.{take-suc, take_at, drop_at}
use borrow.Author.Tests.{lt-ltb, le-ltb, ltb-true, ltb-false}
use Rattle.keys.specs.Key.{order_of}
use Rattle.keys.specs.Pick.{pick}
use Rattle.std.specs.declared.cmp.Ordering.TheVariants.{Less, Equal, Greater}
use Rattle.keys.specs.BigEndian.{be, be_from, be_bytes}

-- one byte more
pub be_snoc : (acc : ℕ) (bs : List ℕ) (b : ℕ) → be_from acc (bs ++ (b ∷ [])) ≡ be_from acc bs * 256 + b
unfolding be_from
be_snoc acc [] b = refl
be_snoc acc (x ∷ bs) b = be_snoc (acc * 256 + x) bs b

-- a number of n + 1 bytes, without its last
high : (n x : ℕ) → x < 256 ^ suc n → x / 256 < 256 ^ n
high n x h = (div-lt_iff_lt-mul (lit< tt)).1 (rw pow-suc at h)

-- the bytes of x are the number x
pub round : (n x : ℕ) → x < 256 ^ n → be (be_bytes n x) ≡ x
unfolding be_bytes be_from
round zero x h = omega arith
round (suc n) x h =
    be_snoc 0 (be_bytes n (x / 256)) (x % 256)
    ∙ ap (λ (k : ℕ). k * 256 + x % 256) (round n (x / 256) (high n x h))
    ∙ div-add-mod' x 256

pub length_be_bytes : (n x : ℕ) → length (be_bytes n x) ≡ n
unfolding be_bytes
length_be_bytes zero x = refl
length_be_bytes (suc n) x =
    length-append (be_bytes n (x / 256)) (x % 256 ∷ []) ∙ ap (λ (k : ℕ). k + 1) (length_be_bytes n (x / 256)) ∙ add-one n

-- each element is a byte
abbrev pub Bytes : List ℕ → Type 0
Bytes l = (i : ℕ) → get_or l i 0 < 256

bytes_snoc : (l : List ℕ) (b : ℕ) → Bytes l → b < 256 → Bytes (l ++ (b ∷ []))
bytes_snoc [] b h k zero = k
bytes_snoc [] b h k (suc i) = lit< tt
bytes_snoc (a ∷ l) b h k zero = h 0
bytes_snoc (a ∷ l) b h k (suc i) = bytes_snoc l b (λ j. h (suc j)) k i

pub bytes_be_bytes : (n x : ℕ) → Bytes (be_bytes n x)
unfolding be_bytes
bytes_be_bytes zero x i = lit< tt
bytes_be_bytes (suc n) x i = bytes_snoc (be_bytes n (x / 256)) (x % 256) (bytes_be_bytes n (x / 256)) (mod-lt x (lit< tt)) i

-- the first n of a list of bytes are a number below 256 ^ n, and that number's bytes
module _ (l : List ℕ) (h : Bytes l) where
  pub be_fits : (n : ℕ) → n ≤ length l → be (take n l) < 256 ^ n
  unfolding be_from
  be_fits zero k = lit< tt
  be_fits (suc n) k = let m : n < length l = omega arith in rw (take-suc l n 0 m, be_snoc, pow-suc) (digits_lt (be_fits n (omega arith)) (h n))

  pub back : (n : ℕ) → n ≤ length l → be_bytes n (be (take n l)) ≡ take n l
  unfolding be_bytes be_from
  back zero k = refl
  back (suc n) k =
      let m : n < length l = omega arith in
      rw (take-suc l n 0 m, be_snoc, digits_div (be (take n l)) (h n), digits_mod (be (take n l)) (h n), back n (omega arith))

-- the bytes tell numbers apart, whatever follows
pub be_apart : (n x y : ℕ) (s t : List ℕ) → x < 256 ^ n → y < 256 ^ n → be_bytes n x ++ s ≡ be_bytes n y ++ t → (x ≡ y) × (s ≡ t)
be_apart n x y s t h k e =
    let lx = length_be_bytes n x in
    let ly = length_be_bytes n y in
    let p : be_bytes n x ≡ be_bytes n y = sym (take_at (be_bytes n x) s n lx) ∙ ap (take n) e ∙ take_at (be_bytes n y) t n ly in
    (sym (round n x h) ∙ ap be p ∙ round n y k, sym (drop_at (be_bytes n x) s n lx) ∙ ap (drop n) e ∙ drop_at (be_bytes n y) t n ly)

-- of two numbers the first is below, or the second is at most it
split : (a b : ℕ) → (a < b) ⊎ (b ≤ a)
split a b = go (ltb a b) refl
  where
    go : (t : Bool) → ltb a b ≡ t → (a < b) ⊎ (b ≤ a)
    go true e = inl (ltb-true a b e)
    go false e = inr (ltb-false a b e)

-- a number orders as its two digits do
module _ {x y r r' : ℕ} (q q' : ℕ) (s t : List ℕ) (e : q * 256 + r ≡ x) (e' : q' * 256 + r' ≡ y) (h : r < 256) (h' : r' < 256) where
  digits : order_of (q ∷ r ∷ s) (q' ∷ r' ∷ t) ≡ order_of (x ∷ s) (y ∷ t)
  unfolding order_of
  digits = go (split q q') (split q' q) (split r r') (split r' r)
    where
      go : (q < q') ⊎ (q' ≤ q) → (q' < q) ⊎ (q ≤ q') → (r < r') ⊎ (r' ≤ r) → (r' < r) ⊎ (r ≤ r')
          → order_of (q ∷ r ∷ s) (q' ∷ r' ∷ t) ≡ order_of (x ∷ s) (y ∷ t)
      go (inl a) b c d = rw (lt-ltb q q' a, lt-ltb x y (omega arith))
      go (inr a) (inl b) c d = rw (le-ltb q q' a, lt-ltb q' q b, le-ltb x y (omega arith), lt-ltb y x (omega arith))
      go (inr a) (inr b) (inl c) d = rw (le-ltb q q' a, le-ltb q' q b, lt-ltb r r' c, lt-ltb x y (omega arith))
      go (inr a) (inr b) (inr c) (inl d) =
          rw (le-ltb q q' a, le-ltb q' q b, le-ltb r r' c, lt-ltb r' r d, le-ltb x y (omega arith), lt-ltb y x (omega arith))
      go (inr a) (inr b) (inr c) (inr d) =
          rw (le-ltb q q' a, le-ltb q' q b, le-ltb r r' c, le-ltb r' r d, le-ltb x y (omega arith), le-ltb y x (omega arith))

-- n bytes order as one digit, whatever follows
pub be_order_then : (n x y : ℕ) (s t : List ℕ) → x < 256 ^ n → y < 256 ^ n
    → order_of (be_bytes n x ++ s) (be_bytes n y ++ t) ≡ order_of (x ∷ s) (y ∷ t)
unfolding be_bytes order_of
be_order_then zero x y s t h k = let p : x ≡ 0 = omega arith in let q : y ≡ 0 = omega arith in rw (p, q)
be_order_then (suc n) x y s t h k =
    simp append_assoc (be_order_then n (x / 256) (y / 256) (x % 256 ∷ s) (y % 256 ∷ t) (high n x h) (high n y k)
    ∙ digits (x / 256) (y / 256) s t (div-add-mod' x 256) (div-add-mod' y 256) (mod-lt x (lit< tt)) (mod-lt y (lit< tt)))

-- the bytes of two numbers order as the numbers do
pub be_order : (n x y : ℕ) → x < 256 ^ n → y < 256 ^ n
    → order_of (be_bytes n x) (be_bytes n y) ≡ pick (ltb x y) Less (pick (ltb y x) Greater Equal)
unfolding order_of
be_order n x y h k = simp append-nil at (be_order_then n x y [] [] h k)
