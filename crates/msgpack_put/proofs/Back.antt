-- Reading back what was written, where it stands: `drop at s ≡ bs ++ post`.
use Rattle.std.specs.Prelude.{None, Ok, Some}
use mathlib.Core.Path.{◌≡◌, refl, sym, ap, ◌∙◌}
use mathlib.Core.Bool.{Bool}
use mathlib.Core.List.{List, ◌++◌, append_assoc}
use Prim.Native.Nat.{ℕ, ◌+◌, ◌-◌, ◌^◌, ◌≤◌, ◌<◌}
use native.Mathlib.Omega.{arith}
use borrow.Author.Tests.{le-leb, lt-ltb, eq-eqb}
use lib.IntN.{ℤ, pos, negsuc}
use lib.ListN.{length, take, drop, length-append}
use lib.Seq.{drop_at, take_at, drop-drop}
use mir.Syntax.{w64}
use mir.Val.{SFits}
use Rattle.keys.specs.BigEndian.{be, be_bytes}
use Rattle.msgpack.specs.Head.{head_of}
use Rattle.msgpack.specs.Skip.{value_of, rest_at, deepest}
use Rattle.msgpack.specs.Read.{uint_by, uint_at, int_by, int_at, flag_by, flag_at, bin_by, bin_at, group_by, group_at, optional_by, optional_at, id_at}
use Rattle.msgpack.specs.declared.Head.{Head}
use Rattle.ids.proofs.BigEndian.{round, length_be_bytes}
use Rattle.msgpack.proofs.Skips.{many_end}
use Rattle.msgpack_put.specs.Write.{uint_bytes, int_bytes, flag_bytes, nil_bytes, array_bytes, bin_head, bin_bytes, id_part}
use Rattle.msgpack_put.proofs.Puts.{id_length}
use Rattle.msgpack_put.proofs.Round.{uint_round, minus_round, flag_round, nil_round, array_round, bin_round}

-- on past the first of two
pub on : (s : List ℕ) (at : ℕ) (a b : List ℕ) → drop at s ≡ a ++ b → drop (at + length a) s ≡ b
on s at a b e = sym (drop-drop (length a) at s) ∙ ap (λ (l : List ℕ). drop (length a) l) e ∙ drop_at a b (length a) refl

-- the head is that of what stands there
pub by_head : {B : Type 0} (f : Head → B) (s : List ℕ) (at : ℕ) (l : List ℕ) (h : Head) → drop at s ≡ l → head_of at l ≡ h → f (head_of at (drop at s)) ≡ f h
by_head f s at l h e k = ap (λ (m : List ℕ). f (head_of at m)) e ∙ ap f k

module _ (s : List ℕ) (at : ℕ) (post : List ℕ) where
  pub uint_back : (x most : ℕ) → x < 2 ^ 64 → x ≤ most → drop at s ≡ uint_bytes x ++ post → uint_at s at most ≡ Ok (x, (at + length (uint_bytes x)))
  unfolding uint_at uint_by
  uint_back x most fits h e = by_head (uint_by at most) s at _ _ e (uint_round at post x fits) ∙ simp (le-leb x most h)

  pub int_back : (x : ℤ) → SFits w64 x → drop at s ≡ int_bytes x ++ post → int_at s at ≡ Ok (x, (at + length (int_bytes x)))
  unfolding int_at int_by
  int_back (pos n) fits e =
      let h : n < 2 ^ 63 = fits.sfits in
      by_head (int_by at) s at _ _ e (uint_round at post n (omega arith)) ∙ simp (lt-ltb n (2 ^ 63) h)
  int_back (negsuc m) fits e =
      let h : m < 2 ^ 63 = fits.sfits in
      by_head (int_by at) s at _ _ e (minus_round at post m h) ∙ simp (lt-ltb m (2 ^ 63) h)

  pub flag_back : (b : Bool) → drop at s ≡ flag_bytes b ++ post → flag_at s at ≡ Ok (b, (at + length (flag_bytes b)))
  unfolding flag_at flag_by
  flag_back b e = by_head (flag_by at) s at _ _ e (flag_round at post b)

  pub group_back : (n least : ℕ) → n < 2 ^ 32 → least ≤ n → drop at s ≡ array_bytes n ++ post → group_at s at least ≡ Ok (n, (at + length (array_bytes n)))
  unfolding group_at group_by
  group_back n least fits h e = by_head (group_by at least) s at _ _ e (array_round at post n fits) ∙ simp (le-leb least n h)

  pub bin_back : (bs : List ℕ) → length bs < 2 ^ 32 → drop at s ≡ bin_bytes bs ++ post
      → bin_at s at ≡ Ok ((at + length (bin_head (length bs))), (length bs), (at + length (bin_bytes bs)))
  unfolding bin_at bin_by
  bin_back bs fits e =
      let p : at + length (bin_head (length bs)) + length bs ≡ at + length (bin_bytes bs) = omega (arith, length-append (bin_head (length bs)) bs) in
      by_head (bin_by at) s at _ _ e (bin_round at post bs fits) ∙ ap (λ (q : ℕ). Ok ((at + length (bin_head (length bs))), (length bs), q)) p

  -- the bytes are where the bin says
  pub bin_stands : (bs : List ℕ) → drop at s ≡ bin_bytes bs ++ post → drop (at + length (bin_head (length bs))) s ≡ bs ++ post
  bin_stands bs e = on s at (bin_head (length bs)) (bs ++ post) (e ∙ append_assoc (bin_head (length bs)) bs post)

  pub bytes_back : (bs : List ℕ) → drop at s ≡ bin_bytes bs ++ post → take (length bs) (drop (at + length (bin_head (length bs))) s) ≡ bs
  bytes_back bs e = ap (λ (l : List ℕ). take (length bs) l) (bin_stands bs e) ∙ take_at bs post (length bs) refl

  -- what may be absent: nil, or a bin or an array, which is not
  pub nil_back : drop at s ≡ nil_bytes ++ post → optional_at s at ≡ Some (at + 1)
  unfolding optional_at optional_by
  nil_back e = by_head optional_by s at _ _ e (nil_round at post)

  pub bin_present : (bs : List ℕ) → length bs < 2 ^ 32 → drop at s ≡ bin_bytes bs ++ post → optional_at s at ≡ None
  unfolding optional_at optional_by
  bin_present bs fits e = by_head optional_by s at _ _ e (bin_round at post bs fits)

  pub array_present : (n : ℕ) → n < 2 ^ 32 → drop at s ≡ array_bytes n ++ post → optional_at s at ≡ None
  unfolding optional_at optional_by
  array_present n fits e = by_head optional_by s at _ _ e (array_round at post n fits)

-- the halves of an id
pub id_back : (s : List ℕ) (at : ℕ) (post : List ℕ) (hi lo : ℕ) → hi < 2 ^ 64 → lo < 2 ^ 64 → drop at s ≡ id_part hi lo ++ post
    → id_at s at ≡ Ok (hi, lo, (at + length (id_part hi lo)))
unfolding id_at
id_back s at post hi lo hf lf e =
    let A = be_bytes 8 hi in
    let B = be_bytes 8 lo in
    let bs = A ++ B in
    let f = at + length (bin_head (length bs)) in
    let n = id_length hi lo in
    let d : drop f s ≡ A ++ (B ++ post) = bin_stands s at post bs e ∙ append_assoc A B post in
    let g : f + 8 ≡ f + length A = omega (arith, length_be_bytes 8 hi) in
    let d' : drop (f + 8) s ≡ B ++ post = ap (λ (k : ℕ). drop k s) g ∙ on s f A (B ++ post) d in
    let high : be (take 8 (drop f s)) ≡ hi = ap (λ (l : List ℕ). be (take 8 l)) d ∙ ap be (take_at A (B ++ post) 8 (length_be_bytes 8 hi)) ∙ round 8 hi hf in
    let low : be (take 8 (drop (f + 8) s)) ≡ lo = ap (λ (l : List ℕ). be (take 8 l)) d' ∙ ap be (take_at B post 8 (length_be_bytes 8 lo)) ∙ round 8 lo lf in
    rw (bin_back s at post bs (omega (arith, n)) e, eq-eqb (length bs) 16 n, high, low)

-- of a record with no further elements nothing is skipped
pub rest_back : (s : List ℕ) (at n : ℕ) → rest_at s at n n ≡ Ok at
rest_back s at n = many_end (value_of s deepest) (n - n) at (omega arith)
