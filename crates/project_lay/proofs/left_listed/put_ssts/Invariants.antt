use Prim.Native.Nat.{◌+◌}
use mathlib.Core.List.{[], ◌∷◌}
use Rattle.records.specs.Row.{view_at}
use Rattle.project_views.proofs.Ids.{Listed}
use Rattle.project_lay.proofs.left_listed.put_ssts.Given as goal

abbrev pub invariant-loop-k : goal.invariant-loop-k
invariant-loop-k l = Listed (λ i. (view_at l.views (l.w.first + i)).sst ∷ []) l.n l.initial.to l.to l.initial.out_ids l.out_ids l.k
