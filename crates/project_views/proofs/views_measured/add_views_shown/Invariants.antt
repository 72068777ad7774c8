use Rattle.records.specs.Fill.{sum, view_fill}
use Rattle.project_views.specs.Reach.{reach_of}
use Rattle.project_views.proofs.Shows.{piece_in}
use Rattle.project_views.proofs.Summed.{Summed}
use Rattle.project_views.proofs.views_measured.add_views_shown.Given as goal

abbrev pub invariant-loop-k : goal.invariant-loop-k
invariant-loop-k l = Summed l.most (sum view_fill) (piece_in l.views l.pool (reach_of l.pool l.r) l.views_overlap l.w.first l.n) l.n l.initial.d l.d l.k
