use Rattle.measure.specs.Within.{ids_used}
use Rattle.project_views.proofs.Ids.{Listed}
use Rattle.project_ranges.specs.Args.{config_in}
use Rattle.project_lay.specs.Steps.{segments_views}
use Rattle.project_lay.proofs.Adds.{piece_in}
use Rattle.project_lay.proofs.left_listed.ids_segments_after.Given as goal

abbrev pub invariant-loop-k : goal.invariant-loop-k
invariant-loop-k l = Listed (λ i. ids_used (segments_views (piece_in l.segments l.runs l.views l.pool (config_in l.pool l.config l.own) l.w.first i))) l.n l.initial.to l.to l.initial.out_ids l.out_ids l.k
