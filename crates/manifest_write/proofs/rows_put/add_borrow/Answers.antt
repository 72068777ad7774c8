use Rattle.records.specs.Decode.{borrow_in}
use Rattle.manifest_write.specs.Bytes.{borrow_bytes}
use Rattle.manifest_write.proofs.Wrotes.{group, more, last}
use Rattle.manifest_write.proofs.rows_put.add_borrow.Goals as goal

pub returns : goal.returns
unfolding borrow_bytes borrow_in
returns c = group _ _ _ _ _ _ _ c.add_array-p0.ensures
    (more _ _ _ _ _ _ _ _ c.add_bin-p1.ensures
    (more _ _ _ _ _ _ _ _ c.add_id-p2.ensures
    (more _ _ _ _ _ _ _ _ c.add_mark-p3.ensures
    (last _ _ _ _ _ c.add_ids.ensures))))
