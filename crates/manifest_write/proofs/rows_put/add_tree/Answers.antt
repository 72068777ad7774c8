use Rattle.records.specs.Decode.{tree_in}
use Rattle.manifest_write.specs.Bytes.{tree_bytes}
use Rattle.manifest_write.proofs.Wrotes.{group, more, last}
use Rattle.manifest_write.proofs.rows_put.add_tree.Goals as goal

pub returns : goal.returns
unfolding tree_bytes tree_in
returns c = group _ _ _ _ _ _ _ c.add_array-p0.ensures
    (more _ _ _ _ _ _ _ _ c.add_mark-p1.ensures
    (more _ _ _ _ _ _ _ _ c.add_mark-p2.ensures
    (more _ _ _ _ _ _ _ _ c.add_views-p3.ensures
    (last _ _ _ _ _ c.add_runs.ensures))))
