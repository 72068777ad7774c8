use Rattle.exports_forms.proofs.arguments.range_arg.Goals as goal

pub returns : goal.returns
returns c = rw (c.bound_at.ensures, c.bound_at-2.ensures)
