use Rattle.exports_forms.proofs.arguments.config_arg.Goals as goal

pub returns : goal.returns
returns c = rw (c.global_arg-global_range.ensures, c.filter_arg-segment_filter.ensures)
