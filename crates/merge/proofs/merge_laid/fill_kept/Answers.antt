use Rattle.merge.proofs.Measuring.{fill_none}
use Rattle.merge.proofs.merge_laid.fill_kept.Goals as goal

pub returns-in-None : goal.returns-in-None
returns-in-None c = fill_none _ _ _ _ _ _ c.in-None.is
