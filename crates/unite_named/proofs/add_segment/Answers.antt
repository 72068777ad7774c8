use Rattle.records.specs.Decode.{bytes_in}
use Rattle.unite_trees.specs.Rows.{trees_in}
use Rattle.unite_named.specs.Steps.{joined_as}
use Rattle.unite_named.proofs.Pieces.{segment_broken, segment_added}
use Rattle.unite_named.proofs.add_segment.Goals as goal

pub returns-in_err-d : goal.returns-in_err-d
returns-in_err-d c = rw c.from_residual.ensures (let a = c.args in segment_broken a.most a.c (joined_as (bytes_in a.pool.now a.p) (trees_in a.segments.now a.rows.now a.n a.runs.now a.views.now a.pool.now)) _ c.measure_joined.ensures c.in_err-d.was)

pub returns : goal.returns
returns c = let a = c.args in segment_added a.most a.c (joined_as (bytes_in a.pool.now a.p) (trees_in a.segments.now a.rows.now a.n a.runs.now a.views.now a.pool.now)) _ c.measure_joined.ensures _ _ _ c.in_ok-d.was c.part-k.ensures c.add.ensures
