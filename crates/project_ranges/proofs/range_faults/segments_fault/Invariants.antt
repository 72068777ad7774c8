use Prim.Native.Nat.{◌+◌}
use Rattle.lawful.specs.Steps.{prefix_at}
use Rattle.segments.specs.Prefixes.{prefixes_in}
use Rattle.project_ranges.specs.Own.{tree_fault, fault_from}
use Rattle.project_ranges.specs.Args.{config_in}
use Rattle.project_ranges.proofs.Faults.{Sound}
use Rattle.project_ranges.proofs.range_faults.segments_fault.Given as goal

abbrev pub invariant-loop-k : goal.invariant-loop-k
invariant-loop-k l = Sound (fault_from (config_in l.pool l.c l.own) 1 (prefixes_in l.segments l.pool l.w))
    (λ i. tree_fault (config_in l.pool l.c l.own) (i + 1) (prefix_at l.segments l.pool (l.w.first + i))) l.n l.k
