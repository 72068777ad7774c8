use Rattle.records.specs.Fill.{sum, run_fill}
use Rattle.emit.proofs.Laid.{Walk, Grown}
use Rattle.project_views.specs.Reach.{reach_of}
use Rattle.project_views.proofs.Runs.{piece_rows, piece_views, piece_pool, piece_in}
use Rattle.project_views.proofs.views_laid.put_runs_shown.Given as goal

abbrev pub invariant-loop-k : goal.invariant-loop-k
invariant-loop-k l = Walk (sum run_fill) (piece_in l.runs l.views l.pool (reach_of l.pool l.r) l.w.first) l.n l.initial.to l.to l.k
    × Grown piece_rows (piece_in l.runs l.views l.pool (reach_of l.pool l.r) l.w.first) l.n l.initial.to l.initial.out_runs l.out_runs l.k
    × Grown piece_views (piece_in l.runs l.views l.pool (reach_of l.pool l.r) l.w.first) l.n l.initial.to l.initial.out_views l.out_views l.k
    × Grown piece_pool (piece_in l.runs l.views l.pool (reach_of l.pool l.r) l.w.first) l.n l.initial.to l.initial.out_pool l.out_pool l.k
