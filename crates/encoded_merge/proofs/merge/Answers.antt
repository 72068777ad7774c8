use mathlib.Core.Path.{◌∙◌, refl}
use Rattle.measure.proofs.Exits.{exit_same}
use Rattle.encoded_merge.proofs.Merging.{read_none, read_merged, read_fine}
use Rattle.encoded_merge.proofs.merge.Goals as goal

pub merge_within-requires : goal.merge_within-requires
merge_within-requires c = let whole = read_fine _ _ _ _ _ _ _ _ c.read_both.ensures _ _ c.in_ok-w.was _ _ _ _ c.read_both.auto.segments c.read_both.auto.views c.read_both.auto.runs refl in record { writer_value = whole.0; segments_in_bounds = whole.1 }

pub returns : goal.returns
returns c = c.merge_within.ensures ∙ read_merged _ _ _ _ _ _ _ _ c.read_both.ensures _ _ c.in_ok-w.was _ _ _ _ refl

pub returns-in_err-w : goal.returns-in_err-w
returns-in_err-w c = rw (exit_same _ _ c.from_residual.ensures.1) (read_none _ _ _ _ _ _ _ _ c.read_both.ensures _ c.in_err-w.was _ _ _ _ refl)
