use mathlib.Core.Path.{ap, ◌∙◌}
use Rattle.records.specs.Model.{Segment}
use mathlib.Core.List.{List}
use Rattle.records.specs.Fill.{sum, segment_fill}
use Rattle.measure.specs.Walk.{add_of}
use Rattle.project_lay.proofs.Adds.{piece_is}
use Rattle.project_lay.proofs.left_measured.measure_segment_at.Goals as goal

pub measure_segment_after-requires : goal.measure_segment_after-requires
measure_segment_after-requires c = record { tree_value = rw c.segment_at-s.ensures c.requires.i_value; fill_value = c.requires.fill_value }

pub returns : goal.returns
returns c = let a = c.args in c.measure_segment_after.ensures ∙ ap (λ (x : List Segment). add_of a.lim.fill a.c (sum segment_fill x)) (piece_is a.pool.now _ a.place _ _ a.runs.now a.views.now c.resolve_segment_action-a.result c.segment_at-s.ensures c.resolve_segment_action-a.ensures)
