use Rattle.std.proofs.Common.{◌-◌, ◌≤◌, length}
use Rattle.replay_union.proofs.calls.Given as goal

abbrev pub invariant-loop-i : goal.invariant-loop-i
invariant-loop-i g l = l.i ≤ length l.s
