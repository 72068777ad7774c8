use Rattle.exports_forms.proofs.Flags.{filter_all, filter_only}
use Rattle.exports_forms.proofs.arguments.filter_arg.Goals as goal

pub returns-then-flag-eq0 : goal.returns-then-flag-eq0
returns-then-flag-eq0 c = filter_all c.args.flag c.args.keeps c.args.mask c.if-flag-eq0.true

pub returns : goal.returns
returns c = filter_only c.args.flag c.args.keeps c.args.mask c.if-flag-eq0.false
