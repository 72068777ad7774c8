use Rattle.project_views.specs.Reach.{reach_of}
use Rattle.project_views.proofs.Ids.{Listed, run_ids_in}
use Rattle.project_views.proofs.views_ids.put_runs_ids.Given as goal

abbrev pub invariant-loop-k : goal.invariant-loop-k
invariant-loop-k l = Listed (run_ids_in l.runs l.views l.pool (reach_of l.pool l.r) l.w.first) l.n l.initial.to l.to l.initial.out_ids l.out_ids l.k
