use Prim.Native.Nat.{◌+◌}
use mathlib.Core.Bool.{not}
use Rattle.records.specs.Row.{view_at}
use Rattle.segments.proofs.Fronts.{Led}
use Rattle.merge.specs.Rows.{absorbed_row, left_of}
use Rattle.merge.proofs.merge_steps.count_left.Given as goal

abbrev pub invariant-loop-k : goal.invariant-loop-k
invariant-loop-k l = Led (left_of l.views l.l0 l.c) (λ i. not (absorbed_row l.c (view_at l.views (l.l0.first + i)))) l.n l.k
