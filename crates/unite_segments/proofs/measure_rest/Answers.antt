use Rattle.records.specs.Decode.{bytes_in}
use Rattle.unite_groups.specs.Rows.{members_in}
use Rattle.unite_segments.proofs.Prefixed.{rest_broken, rest_added}
use Rattle.unite_segments.proofs.measure_rest.Goals as goal

pub returns-in_err-d : goal.returns-in_err-d
returns-in_err-d c = let a = c.args in rw c.from_residual.ensures (rest_broken a.most a.c (bytes_in a.pool.now a.name) (members_in a.groups.now a.sets.now a.pool.now a.count) _ c.part.ensures _ c.add.ensures c.in_err-d.was)

pub returns : goal.returns
returns c = let a = c.args in rest_added a.most a.c (bytes_in a.pool.now a.name) (members_in a.groups.now a.sets.now a.pool.now a.count) _ c.part.ensures _ c.add.ensures _ _ c.in_ok-d.was c.measure_groups.ensures
