-- Reading the head of what was written. THE INTEGER LAW, over the width, is `shape_head`: one for every number, count and length.
--
use mathlib.Core.Path.{◌≡◌, refl, ap, ap₂, ◌∙◌}
use mathlib.Core.Logic.{◌⊎◌, inl, inr, ⊎_elim}
use mathlib.Core.Bool.{Bool, true, false}
use mathlib.Core.List.{List, [], ◌∷◌, ◌++◌, append_assoc}
use Prim.Native.Nat.{ℕ, ◌+◌, ◌-◌, ◌/◌, ◌^◌, ◌≤◌, ◌<◌}
use native.Mathlib.Nat.{add-zero}
use native.Mathlib.Omega.{arith}
use borrow.Author.Tests.{le-leb, lt-leb, lt-ltb, le-ltb, ne_eqb}
use lib.Dec.{lit<, lit≤}
use lib.ListN.{length, length-append}
use lib.Seq.{take_at}
use Rattle.keys.specs.BigEndian.{be, be_bytes}
use Rattle.msgpack.specs.Form.{form_of, row}
use Rattle.msgpack.specs.Head.{arg_of, kind_head, head_by, head_of}
use Rattle.msgpack.specs.declared.Kind.{Kind}
use Rattle.msgpack.specs.declared.Kind.TheVariants as kind
use Rattle.msgpack.specs.declared.Form.{Form}
use Rattle.msgpack.specs.declared.Head.TheVariants.{Nil, Flag, Uint, Minus, Bin, Array}
use Rattle.ids.proofs.BigEndian.{round, length_be_bytes}
use Rattle.msgpack.proofs.Ahead.{split}
use Rattle.msgpack_put.specs.Write.{uint_bytes, minus_bytes, flag_bytes, nil_bytes, array_bytes, bin_head, bin_bytes}

-- a first byte that gives x by itself, or one with x in the w bytes after it; n is the form's own number
pub data Shape (k : Kind) : ℕ → ℕ → List ℕ → Type 0 where
  fix : {x : ℕ} (tag : ℕ) → form_of tag ≡ row k 0 x → Shape k x x (tag ∷ [])
  tagged : {n x : ℕ} (tag w : ℕ) → form_of tag ≡ row k w n → 0 < w → w ≤ 8 → x < 256 ^ w → Shape k n x (tag ∷ be_bytes w x)

pub shape_head : {k : Kind} {n x : ℕ} {bs : List ℕ} → Shape k n x bs → (at : ℕ) (post : List ℕ)
    → head_of at (bs ++ post) ≡ kind_head k n x (at + length bs) (length post)
unfolding head_of head_by
shape_head {k} {n} {x} (fix tag e) at post =
    ap (λ (f : Form). head_by at f post) e
    ∙ simp (le-leb 0 (length post) (omega arith)) (ap₂ (λ (p l : ℕ). kind_head k n x p l) (add-zero (at + 1)) (omega arith))
shape_head {k} {n} {x} (tagged tag w e pos le fits) at post =
    let t = be_bytes w x ++ post in
    let len : length t ≡ w + length post = length-append (be_bytes w x) post ∙ ap (λ (k : ℕ). k + length post) (length_be_bytes w x) in
    let ne : (w ≡ 0) → ⊥ = λ z. omega arith in
    let num : arg_of w n t ≡ x =
    simp (ne_eqb w 0 ne) (ap be (take_at (be_bytes w x) post w (length_be_bytes w x)) ∙ round w x fits) in
    let next : at + 1 + w ≡ at + length (tag ∷ be_bytes w x) = omega (arith, length_be_bytes w x) in
    ap (λ (f : Form). head_by at f t) e
    ∙ simp (le-leb w (length t) (omega arith)) (ap₂ (λ (y l : ℕ). kind_head k n y (at + 1 + w) l) num (omega arith) ∙ ap (λ (p : ℕ). kind_head k n x p (length post)) next)

-- no form is longer than nine bytes
pub shape_length : {k : Kind} {n x : ℕ} {bs : List ℕ} → Shape k n x bs → (0 < length bs) × (length bs ≤ 9)
shape_length (fix tag e) = (lit< tt, lit≤ tt)
shape_length {x = x} (tagged tag w e pos le fits) = omega (arith, length_be_bytes w x)

-- ---- the shapes of what is written

pub uint_shape : (x : ℕ) → x < 2 ^ 64 → (n : ℕ) × Shape kind.Uint n x (uint_bytes x)
unfolding uint_bytes form_of
uint_shape x fits =
    ⊎_elim (λ h. rw (lt-ltb x 0x80 h) (x, fix {x = x} x (simp (lt-ltb x 0x80 h))))
    (λ a. ⊎_elim (λ h. rw (le-ltb x 0x80 a, lt-ltb x 0x100 h) (0, tagged 0xcc 1 refl (lit< tt) (lit≤ tt) h))
    (λ b. ⊎_elim (λ h. rw (le-ltb x 0x80 a, le-ltb x 0x100 b, lt-ltb x 0x1_0000 h) (0, tagged 0xcd 2 refl (lit< tt) (lit≤ tt) h))
    (λ c. ⊎_elim (λ h. rw (le-ltb x 0x80 a, le-ltb x 0x100 b, le-ltb x 0x1_0000 c, lt-ltb x 0x1_0000_0000 h) (0, tagged 0xce 4 refl (lit< tt) (lit≤ tt) h))
    (λ d. rw (le-ltb x 0x80 a, le-ltb x 0x100 b, le-ltb x 0x1_0000 c, le-ltb x 0x1_0000_0000 d) (0, tagged 0xcf 8 refl (lit< tt) (lit≤ tt) fits))
    (split x 0x1_0000_0000)) (split x 0x1_0000)) (split x 0x100)) (split x 0x80)

pub array_shape : (x : ℕ) → x < 2 ^ 32 → (n : ℕ) × Shape kind.Array n x (array_bytes x)
unfolding array_bytes form_of
array_shape x fits =
    ⊎_elim (λ h. rw (lt-ltb x 0x10 h) (x, fix (0x90 + x) (fixed h)))
    (λ a. ⊎_elim (λ h. rw (le-ltb x 0x10 a, lt-ltb x 0x1_0000 h) (0, tagged 0xdc 2 refl (lit< tt) (lit≤ tt) h))
    (λ b. rw (le-ltb x 0x10 a, le-ltb x 0x1_0000 b) (0, tagged 0xdd 4 refl (lit< tt) (lit≤ tt) fits))
    (split x 0x1_0000)) (split x 0x10)
  where
    fixed : x < 0x10 → form_of (0x90 + x) ≡ row kind.Array 0 x
    fixed h =
        simp (le-ltb (0x90 + x) 0x80 (omega arith), le-ltb (0x90 + x) 0x90 (omega arith), lt-ltb (0x90 + x) 0xa0 (omega arith))
        (ap (λ (k : ℕ). row kind.Array 0 k) (omega arith))

-- one law for the bin widths
pub bin_shape : (x : ℕ) → x < 2 ^ 32 → Shape kind.Bin 0 x (bin_head x)
unfolding bin_head form_of
bin_shape x fits =
    ⊎_elim (λ h. rw (lt-ltb x 0x100 h) (tagged 0xc4 1 refl (lit< tt) (lit≤ tt) h))
    (λ a. ⊎_elim (λ h. rw (le-ltb x 0x100 a, lt-ltb x 0x1_0000 h) (tagged 0xc5 2 refl (lit< tt) (lit≤ tt) h))
    (λ b. rw (le-ltb x 0x100 a, le-ltb x 0x1_0000 b) (tagged 0xc6 4 refl (lit< tt) (lit≤ tt) fits))
    (split x 0x1_0000)) (split x 0x100)

-- of -1 - m: a negative fixint, or two's complement, that is, m less than the largest number n of the width, and x in the upper half
abbrev pub Negative : ℕ → List ℕ → Type 0
Negative m bs = Shape kind.Minus m m bs ⊎ (n : ℕ) × (m < n - n / 2) × Shape kind.Sint n (n - m) bs

signed : (m tag w n : ℕ) → form_of tag ≡ row kind.Sint w n → 0 < w → w ≤ 8 → n < 256 ^ w → m < n - n / 2 → Negative m (tag ∷ be_bytes w (n - m))
signed m tag w n e pos le fits h = let k : n - m < 256 ^ w = omega arith in inr (n, h, tagged tag w e pos le k)

pub minus_shape : (m : ℕ) → m < 2 ^ 63 → Negative m (minus_bytes m)
unfolding minus_bytes form_of
minus_shape m fits =
    ⊎_elim (λ h. rw (lt-ltb m 0x20 h) (inl (fix (0xff - m) (fixed h))))
    (λ a. ⊎_elim (λ h. rw (le-ltb m 0x20 a, lt-ltb m 0x80 h) (signed m 0xd0 1 0xff refl (lit< tt) (lit≤ tt) (lit< tt) h))
    (λ b. ⊎_elim (λ h. rw (le-ltb m 0x20 a, le-ltb m 0x80 b, lt-ltb m 0x8000 h) (signed m 0xd1 2 0xffff refl (lit< tt) (lit≤ tt) (lit< tt) h))
    (λ c. ⊎_elim (λ h. rw (le-ltb m 0x20 a, le-ltb m 0x80 b, le-ltb m 0x8000 c, lt-ltb m 0x8000_0000 h) (signed m 0xd2 4 0xffff_ffff refl (lit< tt) (lit≤ tt) (lit< tt) h))
    (λ d. rw (le-ltb m 0x20 a, le-ltb m 0x80 b, le-ltb m 0x8000 c, le-ltb m 0x8000_0000 d) (signed m 0xd3 8 0xffff_ffff_ffff_ffff refl (lit< tt) (lit≤ tt) (lit< tt) fits))
    (split m 0x8000_0000)) (split m 0x8000)) (split m 0x80)) (split m 0x20)
  where
    fixed : m < 0x20 → form_of (0xff - m) ≡ row kind.Minus 0 m
    fixed h =
        simp (le-ltb (0xff - m) 0x80 (omega arith), le-ltb (0xff - m) 0x90 (omega arith), le-ltb (0xff - m) 0xa0 (omega arith), le-ltb (0xff - m) 0xc0 (omega arith), le-ltb (0xff - m) 0xe0 (omega arith))
        (ap (λ (k : ℕ). row kind.Minus 0 k) (omega arith))

-- ---- and so its heads

module _ (at : ℕ) (post : List ℕ) where
  pub uint_round : (x : ℕ) → x < 2 ^ 64 → head_of at (uint_bytes x ++ post) ≡ Uint x (at + length (uint_bytes x))
  unfolding kind_head
  uint_round x fits = shape_head (uint_shape x fits).1 at post

  pub array_round : (n : ℕ) → n < 2 ^ 32 → head_of at (array_bytes n ++ post) ≡ Array n (at + length (array_bytes n))
  unfolding kind_head
  array_round n fits = shape_head (array_shape n fits).1 at post

  negative : (m : ℕ) (bs : List ℕ) → Negative m bs → head_of at (bs ++ post) ≡ Minus m (at + length bs)
  unfolding kind_head
  negative m bs (inl s) = shape_head s at post
  negative m bs (inr (n, h, s)) =
      let k : n / 2 < n - m = omega arith in
      let e : n - (n - m) ≡ m = omega arith in
      shape_head s at post ∙ simp (lt-leb (n - m) (n / 2) k) (ap (λ (j : ℕ). Minus j (at + length bs)) e)

  pub minus_round : (m : ℕ) → m < 2 ^ 63 → head_of at (minus_bytes m ++ post) ≡ Minus m (at + length (minus_bytes m))
  minus_round m fits = negative m (minus_bytes m) (minus_shape m fits)

  pub flag_round : (b : Bool) → head_of at (flag_bytes b ++ post) ≡ Flag b (at + length (flag_bytes b))
  unfolding kind_head form_of
  flag_round false = let s : Shape kind.False 0 0 (flag_bytes false) = fix 0xc2 refl in shape_head s at post
  flag_round true = let s : Shape kind.True 0 0 (flag_bytes true) = fix 0xc3 refl in shape_head s at post

  pub nil_round : head_of at (nil_bytes ++ post) ≡ Nil (at + 1)
  unfolding kind_head form_of
  nil_round = let s : Shape kind.Nil 0 0 nil_bytes = fix 0xc0 refl in shape_head s at post

  pub bin_round : (bs : List ℕ) → length bs < 2 ^ 32
      → head_of at (bin_bytes bs ++ post) ≡ Bin (at + length (bin_head (length bs))) (length bs) (at + length (bin_head (length bs)) + length bs)
  unfolding kind_head
  bin_round bs fits =
      let k : length bs ≤ length (bs ++ post) = omega (arith, length-append bs post) in
      rw append_assoc (shape_head (bin_shape (length bs) fits) at (bs ++ post) ∙ simp (le-leb (length bs) (length (bs ++ post)) k))
