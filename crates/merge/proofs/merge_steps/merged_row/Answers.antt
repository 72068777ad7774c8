use Rattle.merge.proofs.merge_steps.merged_row.Goals as goal

pub returns : goal.returns
returns c = rw c.merge_writer_and_compactor-tree.ensures
