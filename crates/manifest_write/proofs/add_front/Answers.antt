use Rattle.manifest_write.proofs.Wrotes.{more, last}
use Rattle.manifest_write.proofs.add_front.Goals as goal

pub returns : goal.returns
returns c = more _ _ _ _ _ _ _ _ c.add_head-p0.ensures
    (more _ _ _ _ _ _ _ _ c.add_tree-p1.ensures
    (more _ _ _ _ _ _ _ _ c.add_segments-p2.ensures
    (last _ _ _ _ _ c.add_optional_bin.ensures.1)))
