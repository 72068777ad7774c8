use borrow.Author.Tests.{eq-eqb}
use Rattle.exports_forms.proofs.Flags.{odd_some}
use Rattle.exports_forms.proofs.arguments.global_odd.Goals as goal

pub returns-then-f-ne0 : goal.returns-then-f-ne0
returns-then-f-ne0 c = odd_some c.args.f.now c.args.r.now _ c.if-f-ne0.true c.is_odd.ensures

pub returns-else-f-ne0 : goal.returns-else-f-ne0
returns-else-f-ne0 c = rw (eq-eqb _ _ c.if-f-ne0.false)
