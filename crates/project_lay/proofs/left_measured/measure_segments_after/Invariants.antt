use Rattle.records.specs.Fill.{sum, segment_fill}
use Rattle.project_views.proofs.Summed.{Summed}
use Rattle.project_ranges.specs.Args.{config_in}
use Rattle.project_lay.proofs.Adds.{piece_in}
use Rattle.project_lay.proofs.left_measured.measure_segments_after.Given as goal

abbrev pub invariant-loop-k : goal.invariant-loop-k
invariant-loop-k l = Summed l.lim.fill (sum segment_fill) (piece_in l.segments l.runs l.views l.pool (config_in l.pool l.config l.own) l.w.first) l.n l.initial.d l.d l.k
