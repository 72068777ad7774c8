use Prim.Native.Nat.{◌≤◌, ◌<◌, ◌^◌}
use mathlib.Core.Path.{◌≡◌}
use lib.ListN.{take, drop}
use Rattle.keys.specs.BigEndian.{be}
use Rattle.msgpack.proofs.first_bytes.number.Given as goal

abbrev pub invariant-loop-i : goal.invariant-loop-i
invariant-loop-i l = (l.i ≤ l.n) × (l.x < 256 ^ l.i) × (l.x ≡ be (take l.i (drop l.at l.s)))
