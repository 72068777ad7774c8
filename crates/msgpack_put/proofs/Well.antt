-- What is written is well-formed by the public specification, part by part, with any room left.
use Rattle.std.specs.Prelude.{Ok, Result}
use mathlib.Core.Path.{◌≡◌, refl, sym, ap, ◌∙◌}
use mathlib.Core.Bool.{Bool}
use mathlib.Core.List.{List, [], ◌∷◌, ◌++◌, append_assoc, append-nil}
use Prim.Native.Nat.{ℕ, suc, ◌+◌, ◌-◌, ◌^◌, ◌<◌}
use native.Mathlib.Nat.{zero-add, le_refl}
use native.Mathlib.Omega.{arith}
use borrow.Author.Tests.{le-ltb}
use lib.IntN.{ℤ, pos, negsuc}
use lib.ListN.{length, drop, length-append}
use mir.Syntax.{w64}
use mir.Val.{SFits}
use Rattle.keys.specs.BigEndian.{be_bytes}
use Rattle.msgpack.specs.Head.{head_of}
use Rattle.msgpack.specs.Skip.{after, many_of, skip_head, value_of, deepest, whole_end, whole_of}
use Rattle.msgpack.specs.declared.Head.{Head}
use Rattle.msgpack.proofs.Skips.{value_flat, value_open}
use Rattle.msgpack_put.specs.Write.{uint_bytes, int_bytes, flag_bytes, nil_bytes, array_bytes, bin_head, bin_bytes, id_part, concat, group_bytes}
use Rattle.msgpack_put.proofs.Puts.{id_length}
use Rattle.msgpack_put.proofs.Round.{uint_round, minus_round, flag_round, nil_round, array_round, bin_round}
use Rattle.msgpack_put.proofs.Back.{on}

-- wherever bs stands, it is one value, and opens at most `room` levels
abbrev pub Well : ℕ → List ℕ → Type 0
Well room bs = (s : List ℕ) (at : ℕ) (post : List ℕ) → drop at s ≡ bs ++ post → value_of s room at ≡ Ok (at + length bs)

abbrev pub Wells : ℕ → List (List ℕ) → Type 0
Wells room [] = Unit {0}
Wells room (b ∷ bs) = Well room b × Wells room bs

-- what reads as no array and no map
flat : (room : ℕ) (bs : List ℕ) (h : ℕ → List ℕ → Head) → ((at : ℕ) (post : List ℕ) → head_of at (bs ++ post) ≡ h at post)
    → ((at : ℕ) (post : List ℕ) (g : ℕ → ℕ → Result ℕ ℕ) → skip_head at g (h at post) ≡ Ok (at + length bs)) → Well room bs
flat room bs h r k s at post e =
    value_flat s room at (head_of at (drop at s)) (h at post) _ refl (ap (λ (l : List ℕ). head_of at l) e ∙ r at post) (k at post)

module _ (room : ℕ) where
  pub well_uint : (x : ℕ) → x < 2 ^ 64 → Well room (uint_bytes x)
  unfolding skip_head
  well_uint x h = flat room (uint_bytes x) _ (λ at post. uint_round at post x h) (λ at post g. refl)

  pub well_int : (x : ℤ) → SFits w64 x → Well room (int_bytes x)
  unfolding skip_head
  well_int (pos n) fits = let h : n < 2 ^ 63 = fits.sfits in well_uint n (omega arith)
  well_int (negsuc m) fits = flat room (int_bytes (negsuc m)) _ (λ at post. minus_round at post m fits.sfits) (λ at post g. refl)

  pub well_flag : (b : Bool) → Well room (flag_bytes b)
  unfolding skip_head
  well_flag b = flat room (flag_bytes b) _ (λ at post. flag_round at post b) (λ at post g. refl)

  pub well_nil : Well room nil_bytes
  unfolding skip_head
  well_nil = flat room nil_bytes _ (λ at post. nil_round at post) (λ at post g. refl)

  pub well_bin : (bs : List ℕ) → length bs < 2 ^ 32 → Well room (bin_bytes bs)
  unfolding skip_head
  well_bin bs h =
      flat room (bin_bytes bs) _ (λ at post. bin_round at post bs h)
      (λ at post g. ap Ok (omega (arith, length-append (bin_head (length bs)) bs)))

  pub well_id : (hi lo : ℕ) → Well room (id_part hi lo)
  well_id hi lo = well_bin (be_bytes 8 hi ++ be_bytes 8 lo) (omega (arith, id_length hi lo))

many_well : (room : ℕ) (bss : List (List ℕ)) → Wells room bss → (s : List ℕ) (at : ℕ) (post : List ℕ) → drop at s ≡ concat bss ++ post
    → many_of (value_of s room) (length bss) at ≡ Ok (at + length (concat bss))
unfolding concat many_of
many_well room [] w s at post e = ap Ok (omega arith)
many_well room (b ∷ bss) w s at post e =
    let e' : drop at s ≡ b ++ (concat bss ++ post) = e ∙ append_assoc b (concat bss) post in
    ap (λ (r : Result ℕ ℕ). after r (λ p. many_of (value_of s room) (length bss) p)) (w.0 s at (concat bss ++ post) e')
    ∙ many_well room bss w.1 s (at + length b) post (on s at b (concat bss ++ post) e')
    ∙ ap Ok (omega (arith, length-append b (concat bss)))

-- a group of well-formed values is one, a level up
pub well_group : (room : ℕ) (bss : List (List ℕ)) → length bss < 2 ^ 32 → Wells room bss → Well (suc room) (group_bytes bss)
unfolding skip_head
well_group room bss h w s at post e =
    let n = length bss in
    let e' : drop at s ≡ array_bytes n ++ (concat bss ++ post) = e ∙ append_assoc (array_bytes n) (concat bss) post in
    let r : suc room - 1 ≡ room = omega arith in
    value_open s (suc room) at (head_of at (drop at s)) _ refl (ap (λ (l : List ℕ). head_of at l) e' ∙ array_round at (concat bss ++ post) n h) (λ z. omega arith)
    ∙ ap (λ (k : ℕ). many_of (value_of s k) n (at + length (array_bytes n))) r
    ∙ many_well room bss w s (at + length (array_bytes n)) post (on s at (array_bytes n) (concat bss ++ post) e')
    ∙ ap Ok (omega (arith, length-append (array_bytes n) (concat bss)))

-- the whole of what is written passes
pub well_whole : (bs : List ℕ) → Well deepest bs → whole_of bs ≡ Ok tt
unfolding whole_of
well_whole bs w =
    ap (λ (r : Result ℕ ℕ). whole_end (length bs) r) (w bs 0 [] (sym (append-nil bs)) ∙ ap Ok (zero-add (length bs)))
    ∙ simp (le-ltb (length bs) (length bs) (le_refl (length bs)))
