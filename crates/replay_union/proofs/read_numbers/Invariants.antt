use Rattle.std.proofs.Common.{◌-◌, ◌≤◌}
use Rattle.replay_union.proofs.read_numbers.Given as goal

abbrev pub invariant-loop-i : goal.invariant-loop-i
invariant-loop-i l = l.i ≤ 512
