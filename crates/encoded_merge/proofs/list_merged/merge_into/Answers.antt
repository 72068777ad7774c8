use mathlib.Core.Path.{◌∙◌}
use Rattle.measure.proofs.Exits.{exit_same}
use Rattle.encoded_merge.proofs.Giving.{into_done, into_refused}
use Rattle.encoded_merge.proofs.list_merged.merge_into.Goals as goal

pub merge_judged-requires : goal.merge_judged-requires
merge_judged-requires c = c.requires

pub returns : goal.returns
returns c = c.write_segments.ensures ∙ into_done _ _ _ _ _ _ _ _ c.merge_judged.ensures _ c.in_ok-w.was

pub returns-in_err-w : goal.returns-in_err-w
returns-in_err-w c = rw (exit_same _ _ c.from_residual.ensures.1) (into_refused _ _ _ _ _ _ _ _ c.merge_judged.ensures _ c.in_err-w.was)
