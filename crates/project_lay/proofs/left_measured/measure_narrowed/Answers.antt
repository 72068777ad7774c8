use Rattle.records.specs.Decode.{tree_in, segments_in, name_in}
use Rattle.records.specs.Fill.{sum, key_fill, name_keys, segment_fill}
use Rattle.copy.proofs.Answers.{empty_fits}
use Rattle.project_ranges.specs.Config.{Config}
use Rattle.project_ranges.specs.Args.{config_in}
use Rattle.project_lay.specs.After.{segments_after}
use Rattle.project_lay.proofs.Adds.{body_broken, body_fits, body_broken_late, body_fits_late, body_added, tree_added_as}
use Rattle.project_lay.proofs.left_measured.measure_narrowed.Goals as goal

pub measure_tree_after-requires : goal.measure_tree_after-requires
measure_tree_after-requires c = record { t_value = c.requires.t_value; fill_value = empty_fits _ }

pub returns-in_err-d : goal.returns-in_err-d
returns-in_err-d c = rw c.from_residual.ensures (let a = c.args in let x : Config = config_in a.pool.now a.config a.own.now in body_broken a.lim.fill _ _ _ _ (tree_added_as a.lim.fill a.pool.now x c.resolve_segment_action-a.result (tree_in a.runs.now a.views.now a.pool.now a.t) _ c.resolve_segment_action-a.ensures c.measure_tree_after.ensures) c.in_err-d.was)

pub measure_segments_after-requires : goal.measure_segments_after-requires
measure_segments_after-requires c = record { w_value = c.requires.w_value; fill_value = body_fits _ _ (sum segment_fill (segments_after (config_in c.args.pool.now c.args.config c.args.own.now) 1 (segments_in c.args.segments.now c.args.runs.now c.args.views.now c.args.pool.now c.args.w))) (sum key_fill (name_keys (name_in c.args.pool.now c.args.n))) _ c.measure_tree_after.ensures _ c.in_ok-d.was }

pub returns-in_err-e : goal.returns-in_err-e
returns-in_err-e c = rw c.from_residual-in_err-e.ensures (let a = c.args in let x : Config = config_in a.pool.now a.config a.own.now in body_broken_late a.lim.fill _ _ _ _ (tree_added_as a.lim.fill a.pool.now x c.resolve_segment_action-a.result (tree_in a.runs.now a.views.now a.pool.now a.t) _ c.resolve_segment_action-a.ensures c.measure_tree_after.ensures) _ c.in_ok-d.was _ c.measure_segments_after.ensures c.in_err-e.was)

pub measure_name-requires : goal.measure_name-requires
measure_name-requires c = let a = c.args in body_fits_late _ _ (sum segment_fill (segments_after (config_in a.pool.now a.config a.own.now) 1 (segments_in a.segments.now a.runs.now a.views.now a.pool.now a.w))) (sum key_fill (name_keys (name_in a.pool.now a.n))) _ c.measure_tree_after.ensures _ c.in_ok-d.was _ c.measure_segments_after.ensures _ c.in_ok-e.was

pub returns : goal.returns
returns c = let a = c.args in let x : Config = config_in a.pool.now a.config a.own.now in body_added a.lim.fill _ _ _ _ (tree_added_as a.lim.fill a.pool.now x c.resolve_segment_action-a.result (tree_in a.runs.now a.views.now a.pool.now a.t) _ c.resolve_segment_action-a.ensures c.measure_tree_after.ensures) _ c.in_ok-d.was _ c.measure_segments_after.ensures _ c.in_ok-e.was _ c.measure_name.ensures
