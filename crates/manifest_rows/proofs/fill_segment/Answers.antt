use Rattle.manifest_rows.proofs.Trees.{segment_under}
use Rattle.manifest_rows.proofs.fill_segment.Goals as goal

pub fill_tree-requires : goal.fill_tree-requires
fill_tree-requires c = segment_under _ _ _ _ _ _ c.in_ok-n.ensures c.in_ok-prefix.ensures _ c.requires.1
