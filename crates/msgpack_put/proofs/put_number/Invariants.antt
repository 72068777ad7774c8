use mathlib.Core.Path.{◌≡◌}
use lib.Seq.{sets}
use Rattle.keys.specs.BigEndian.{be_bytes}
use Rattle.msgpack_put.proofs.put_number.Given as goal

-- what is still to be stored, stored now, gives the whole
abbrev pub invariant-loop-i : goal.invariant-loop-i
invariant-loop-i l = sets l.out l.at (be_bytes l.i l.y) ≡ sets l.initial.out l.at (be_bytes l.n l.x)
