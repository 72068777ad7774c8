use Rattle.records.specs.Decode.{manifest_in}
use Rattle.manifest_write.specs.Bytes.{manifest_bytes}
use Rattle.manifest_write.proofs.Wrotes.{group, several, more, last}
use Rattle.manifest_write.proofs.add_manifest.Goals as goal

pub returns : goal.returns
unfolding manifest_bytes manifest_in
returns c = group _ _ _ _ _ _ _ c.add_array-p0.ensures
    (several _ _ _ _ _ _ _ _ c.add_front-p1.ensures
    (several _ _ _ _ _ _ _ _ c.add_numbers-p2.ensures
    (more _ _ _ _ _ _ _ _ c.add_borrows-p3.ensures
    (more _ _ _ _ _ _ _ _ c.add_head-p4.ensures
    (last _ _ _ _ _ c.add_head.ensures)))))
