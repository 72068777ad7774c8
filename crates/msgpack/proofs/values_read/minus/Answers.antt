use mathlib.Core.Path.{◌∙◌, ap}
use mir.Syntax.{w64}
use mir.Facts.{to_z_pos, to_z-of_z}
use lib.IntN.{ℤ, negsuc, ◌-ℤ◌}
use Rattle.msgpack.proofs.Signs.{from_plus}
use Rattle.msgpack.proofs.values_read.minus.Goals as goal

-- src/lib.rt:23:5
pub overflow_sub-result : goal.overflow_sub-result
overflow_sub-result c = rw (to_z_pos w64 c.requires, from_plus) (record { sfits = c.requires })

-- src/lib.rt:19:1
pub returns : goal.returns
returns c = to_z-of_z (overflow_sub-result c) ∙ ap (λ (z : ℤ). negsuc 0 -ℤ z) (to_z_pos w64 c.requires) ∙ from_plus c.args.m
