use Rattle.records.specs.Decode.{segment_in}
use Rattle.project_ranges.specs.Args.{action_in}
use Rattle.project_lay.proofs.Adds.{segment_gone, segment_broken, segment_added}
use Rattle.project_lay.proofs.left_measured.measure_segment_after.Goals as goal

pub returns-then-not-stays : goal.returns-then-not-stays
unfolding segment_in
returns-then-not-stays c = let a = c.args in segment_gone a.lim.fill (action_in a.pool.now a.a) (segment_in a.runs.now a.views.now a.pool.now a.s) a.c _ c.stays.ensures c.requires.fill_value (c.if-not-stays.true)

pub returns-in_err-d : goal.returns-in_err-d
unfolding segment_in
returns-in_err-d c = rw c.from_residual.ensures (let a = c.args in segment_broken a.lim.fill (action_in a.pool.now a.a) (segment_in a.runs.now a.views.now a.pool.now a.s) a.c _ c.stays.ensures (c.if-not-stays.false) _ c.measure_tree_after.ensures c.in_err-d.was)

pub returns : goal.returns
unfolding segment_in
returns c = let a = c.args in segment_added a.lim.fill (action_in a.pool.now a.a) (segment_in a.runs.now a.views.now a.pool.now a.s) a.c _ c.stays.ensures (c.if-not-stays.false) _ c.measure_tree_after.ensures _ _ _ c.in_ok-d.was c.part-n.ensures c.add.ensures
