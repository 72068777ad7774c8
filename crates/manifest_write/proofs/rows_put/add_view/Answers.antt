use Rattle.manifest_write.specs.Bytes.{view_bytes}
use Rattle.records.specs.Decode.{view_in}
use Rattle.manifest_write.proofs.Wrotes.{group, more, last}
use Rattle.manifest_write.proofs.rows_put.add_view.Goals as goal

pub returns : goal.returns
unfolding view_bytes view_in
returns c = group _ _ _ _ _ _ _ c.add_array-p0.ensures
    (more _ _ _ _ _ _ _ _ c.add_id-p1.ensures
    (more _ _ _ _ _ _ _ _ c.add_id-p2.ensures
    (more _ _ _ _ _ _ _ _ c.add_bin-p3.ensures
    (more _ _ _ _ _ _ _ _ c.add_optional_bin-p4.ensures.0
    (last _ _ _ _ _ c.add_visible.ensures)))))
