use mathlib.Core.Path.{sym, ap, ◌∙◌}
use mir.Syntax.{w64}
use mir.Facts.{to_z-of_z}
use Rattle.msgpack_put.specs.Write.{int_bytes, head_bytes}
use Rattle.msgpack_put.proofs.Signs.{int_is}
use Rattle.manifest_write.proofs.Wrotes.{more, last, wrote_as}
use Rattle.manifest_write.proofs.add_numbers.Goals as goal

pub returns : goal.returns
returns c = let back = ap int_bytes (to_z-of_z {w = w64} {z = c.args.m.last_l0_clock_tick} (record { sfits = c.struct_told-1.given.1.1.1.1.1.1.0.1 })) in
    let tick = sym back ∙ int_is _ ∙ sym (ap head_bytes c.sign_of.ensures) in
    more _ _ _ _ _ _ _ _ c.add_head-p0.ensures
    (more _ _ _ _ _ _ _ _ c.add_head-p1.ensures
    (more _ _ _ _ _ _ _ _ (wrote_as _ _ _ _ _ _ tick c.add_head-p2.ensures)
    (more _ _ _ _ _ _ _ _ c.add_head-p3.ensures
    (last _ _ _ _ _ c.add_head.ensures))))
