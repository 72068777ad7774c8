use Rattle.exports_forms.proofs.Flags.{global_unset, global_set}
use Rattle.exports_forms.proofs.arguments.global_arg.Goals as goal

pub returns-then-flag-eq0 : goal.returns-then-flag-eq0
returns-then-flag-eq0 c = global_unset c.args.flag c.args.r.now c.if-flag-eq0.true

pub returns : goal.returns
returns c = global_set c.args.flag c.args.r.now _ c.if-flag-eq0.false c.range_arg.ensures
