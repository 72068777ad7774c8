-- Minus one minus a number, and back.
use mathlib.Core.Path.{◌≡◌, refl, ap}
use mathlib.Core.Bool.{true, false}
use Prim.Native.Nat.{ℕ, suc, ◌<◌, ◌^◌}
use native.Mathlib.Omega.{arith}
use borrow.Author.Tests.{le-ltb, ltb-true}
use lib.Dec.{T}
use lib.IntN.{ℤ, pos, negsuc, ◌-ℤ◌, nat_abs}
use lib.Signed.{lt_z, non_neg}
use mir.Syntax.{w64}
use mir.Val.{Fits, SFits}
use Rattle.msgpack.proofs.Signs.{from_plus}
use Rattle.msgpack_put.specs.Sign.{sign_of}
use Rattle.msgpack_put.specs.Write.{int_bytes, head_bytes}
use Rattle.msgpack_put.specs.declared.Head.TheVariants.{Uint, Minus}

pub from_minus : (k : ℕ) → negsuc 0 -ℤ negsuc k ≡ pos k
from_minus k = simp (le-ltb (suc k) 1 (omega arith)) (ap pos (omega arith))

pub minus_fits : (x : ℤ) → SFits w64 x → SFits w64 (negsuc 0 -ℤ x)
minus_fits (pos n) f = rw from_plus (record { sfits = f.sfits })
minus_fits (negsuc k) f = rw from_minus (record { sfits = f.sfits })

-- what a cast of a negative number's other half asks, and what it gives
pub record Below (x y : ℤ) : Type 0 where
  pub sign : T (non_neg y)
  pub fits : Fits w64 (nat_abs y)
  pub is : Minus (nat_abs y) ≡ sign_of x

pub below : (x : ℤ) → SFits w64 x → lt_z x (pos 0) ≡ true → Below x (negsuc 0 -ℤ x)
below (pos n) f t = let h : n < 0 = ltb-true n 0 t in absurd (omega arith)
below (negsuc k) f t = rw from_minus (record { sign = tt; fits = record { fits = let h : k < 2 ^ 63 = f.sfits in omega arith }; is = refl })

pub record NotBelow (x : ℤ) : Type 0 where
  pub sign : T (non_neg x)
  pub fits : Fits w64 (nat_abs x)
  pub is : Uint (nat_abs x) ≡ sign_of x

pub not_below : (x : ℤ) → SFits w64 x → lt_z x (pos 0) ≡ false → NotBelow x
not_below (pos n) f t = record { sign = tt; fits = record { fits = let h : n < 2 ^ 63 = f.sfits in omega arith }; is = refl }
not_below (negsuc k) f t = let z : ◌≡◌ {A = ℕ} 0 1 = cc in absurd (omega arith)

-- what is written of a number goes by its sign
pub int_is : (x : ℤ) → int_bytes x ≡ head_bytes (sign_of x)
int_is (pos n) = refl
int_is (negsuc m) = refl
