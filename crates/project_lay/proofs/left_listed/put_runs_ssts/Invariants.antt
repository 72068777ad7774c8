use Prim.Native.Nat.{◌+◌}
use Rattle.records.specs.Row.{run_at}
use Rattle.project_views.proofs.Ids.{Listed}
use Rattle.project_lay.specs.Steps.{ssts_in}
use Rattle.project_lay.proofs.left_listed.put_runs_ssts.Given as goal

abbrev pub invariant-loop-k : goal.invariant-loop-k
invariant-loop-k l = Listed (λ i. ssts_in l.views (run_at l.runs (l.w.first + i)).views) l.n l.initial.to l.to l.initial.out_ids l.out_ids l.k
