use Rattle.exports_tables.specs.Head.{head_segments}
use Rattle.exports_tables.proofs.head_forms.head_segments.Goals as goal

pub returns : goal.returns
unfolding head_segments
returns c = rw (c.window_if.ensures, c.are_both-known.ensures, c.are_both-flags.ensures, c.are_both-marks.ensures, c.is_code-initialized.ensures, c.is_code-name.ensures, c.is_code-sst.ensures, c.is_code-view.ensures)
