use Rattle.merge.proofs.Finding.{only_by}
use Rattle.merge.proofs.merge_faults.next_only.Goals as goal

pub returns : goal.returns
returns c = only_by _ _ _ _ _ _ _ _ _ _ _ c.merge_step-step.ensures c.has_data-alone.ensures c.advance-past.ensures
