-- One byte more of a number that is read, over the width.
use mathlib.Core.Path.{◌≡◌}
use mathlib.Core.List.{List}
use Prim.Native.Nat.{ℕ, ◌+◌, ◌*◌, ◌^◌, ◌≤◌, ◌<◌}
use native.Mathlib.Nat.{pow-suc, pow-le-pow_right}
use native.Mathlib.Numerals.{add-one}
use native.Mathlib.Omega.{arith}
use lib.Arith.{digits_lt}
use lib.Dec.{lit<}
use lib.ListN.{length, take, drop, get_or, length-drop}
use lib.Seq.{take-suc, get_or-drop}
use Rattle.keys.specs.BigEndian.{be}
use Rattle.ids.proofs.BigEndian.{be_snoc}

-- one byte more of a list, at `at + i`
pub be_more : (l : List ℕ) (at i : ℕ) → at + i < length l → be (take (i + 1) (drop at l)) ≡ be (take i (drop at l)) * 256 + get_or l (at + i) 0
be_more l at i h =
    let k : i < length (drop at l) = simp length-drop (omega arith) in
    rw (add-one, take-suc (drop at l) i 0 k, be_snoc, get_or-drop)

-- one digit more stays within one byte more
pub one_more : (i : ℕ) {x b : ℕ} → x < 256 ^ i → b < 256 → x * 256 + b < 256 ^ (i + 1)
one_more i hx hb = rw (add-one, pow-suc) (digits_lt hx hb)

-- eight bytes fit 64 bits
pub eight : {i : ℕ} → i ≤ 8 → 256 ^ i ≤ 2 ^ 64
eight h = pow-le-pow_right (lit< tt) h
