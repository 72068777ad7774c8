use Rattle.records.specs.Fill.{sum, segment_fill}
use Rattle.emit.proofs.Laid.{Walk, Grown}
use Rattle.project_ranges.specs.Args.{config_in}
use Rattle.project_lay.proofs.Adds.{piece_in}
use Rattle.project_lay.proofs.Puts.{piece_rows, piece_runs, piece_views, piece_pool}
use Rattle.project_lay.proofs.left_laid.put_segments_after.Given as goal

abbrev pub invariant-loop-k : goal.invariant-loop-k
invariant-loop-k l = Walk (sum segment_fill) (piece_in l.segments l.runs l.views l.pool (config_in l.pool l.config l.own) l.w.first) l.n l.initial.to l.to l.k
    × Grown piece_rows (piece_in l.segments l.runs l.views l.pool (config_in l.pool l.config l.own) l.w.first) l.n l.initial.to l.initial.out_segments l.out_segments l.k
    × Grown piece_runs (piece_in l.segments l.runs l.views l.pool (config_in l.pool l.config l.own) l.w.first) l.n l.initial.to l.initial.out_runs l.out_runs l.k
    × Grown piece_views (piece_in l.segments l.runs l.views l.pool (config_in l.pool l.config l.own) l.w.first) l.n l.initial.to l.initial.out_views l.out_views l.k
    × Grown piece_pool (piece_in l.segments l.runs l.views l.pool (config_in l.pool l.config l.own) l.w.first) l.n l.initial.to l.initial.out_pool l.out_pool l.k
