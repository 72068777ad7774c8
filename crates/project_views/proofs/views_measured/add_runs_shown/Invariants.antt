use Rattle.records.specs.Fill.{sum, run_fill}
use Rattle.project_views.specs.Reach.{reach_of}
use Rattle.project_views.proofs.Runs.{piece_in}
use Rattle.project_views.proofs.Summed.{Summed}
use Rattle.project_views.proofs.views_measured.add_runs_shown.Given as goal

abbrev pub invariant-loop-k : goal.invariant-loop-k
invariant-loop-k l = Summed l.most (sum run_fill) (piece_in l.runs l.views l.pool (reach_of l.pool l.r) l.w.first) l.n l.initial.d l.d l.k
