use Rattle.records.specs.Decode.{segment_in}
use Rattle.manifest_write.specs.Bytes.{segment_bytes}
use Rattle.manifest_write.proofs.Wrotes.{group, more, last}
use Rattle.manifest_write.proofs.rows_put.add_segment.Goals as goal

pub returns : goal.returns
unfolding segment_bytes segment_in
returns c = group _ _ _ _ _ _ _ c.add_array-p.ensures
    (more _ _ _ _ _ _ _ _ c.add_bin-q.ensures
    (last _ _ _ _ _ c.add_tree.ensures))
