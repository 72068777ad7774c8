use mir.Syntax.{w64}
use mir.Facts.{to_z_pos}
use Rattle.msgpack.proofs.values_read.plus.Goals as goal

-- src/lib.rt:12:1
pub returns : goal.returns
returns c = to_z_pos w64 c.requires
