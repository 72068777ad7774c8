-- Minus one minus a number, and a signed number in a local.
use mathlib.Core.Path.{◌≡◌, refl, ap, ◌∙◌}
use Prim.Native.Nat.{ℕ, zero, suc}
use native.Mathlib.Omega.{arith}
use lib.IntN.{ℤ, pos, negsuc, ◌-ℤ◌}
use mir.Syntax.{w64}
use mir.Val.{SFits, to_z, of_z}
use mir.Facts.{to_z-of_z}

pub from_plus : (m : ℕ) → negsuc 0 -ℤ pos m ≡ negsuc m
from_plus zero = refl
from_plus (suc k) = ap negsuc (omega arith)

-- what a call answered, as the local holds it
pub held : {r z : ℤ} → r ≡ z → SFits w64 z → to_z w64 (of_z w64 r) ≡ z
held e f = ap (λ (y : ℤ). to_z w64 (of_z w64 y)) e ∙ to_z-of_z f
