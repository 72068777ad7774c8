use Rattle.merge.specs.Rows.{merged_tree}
use Rattle.merge.proofs.merge_steps.merge_writer_and_compactor.Goals as goal

pub returns : goal.returns
unfolding merged_tree
returns c = rw c.count_left-count.ensures
