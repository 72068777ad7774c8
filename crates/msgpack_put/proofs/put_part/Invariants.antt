use mathlib.Core.Path.{◌≡◌}
use Prim.Native.Nat.{◌+◌, ◌≤◌}
use lib.ListN.{length, take, drop}
use lib.Seq.{sets}
use Rattle.msgpack_put.proofs.put_part.Given as goal

-- what is still to be stored, stored now, gives the whole
abbrev pub invariant-loop-i : goal.invariant-loop-i
invariant-loop-i l = (l.i ≤ l.n) × (length l.out ≡ length l.initial.out) × (sets l.out (l.at + l.i) (drop l.i (take l.n (drop l.from l.pool))) ≡ sets l.initial.out l.at (take l.n (drop l.from l.pool)))
