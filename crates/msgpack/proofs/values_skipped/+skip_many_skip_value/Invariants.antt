-- The cycle {skip_many, skip_value}. A call of itself falls by the room, and `skip_many`'s loop by the bytes that are left:
-- each value takes one at least (`past_within`). The loop's invariant: what is still to be skipped has the answer of the whole.
use Rattle.std.proofs.Common.{◌≡◌, ◌+◌, ◌-◌, ◌*◌, length}
use Rattle.msgpack.specs.Skip.{many_of, value_of}
use Rattle.msgpack.proofs.values_skipped.+skip_many_skip_value.Given as goal

abbrev pub decreases-skip_many : goal.decreases-skip_many
decreases-skip_many l = 2 * l.room + 1

abbrev pub decreases-skip_value : goal.decreases-skip_value
decreases-skip_value l = 2 * l.room

abbrev pub invariant-skip_many-loop-left : goal.invariant-skip_many-loop-left
invariant-skip_many-loop-left l = many_of (value_of l.s l.room) l.left l.p ≡ many_of (value_of l.s l.room) l.n l.at

abbrev pub decreases-skip_many-loop-left : goal.decreases-skip_many-loop-left
decreases-skip_many-loop-left l = length l.s - l.p
