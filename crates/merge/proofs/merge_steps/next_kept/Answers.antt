use Rattle.merge.proofs.Rowwise.{next_by}
use Rattle.merge.proofs.merge_steps.next_kept.Goals as goal

pub returns : goal.returns
returns c = next_by _ _ _ _ _ _ _ _ _ _ _ _ c.merge_step-step.ensures c.keep_by-keep.ensures c.advance-past.ensures
