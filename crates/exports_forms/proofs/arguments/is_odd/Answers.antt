use borrow.Author.Tests.{lt-ltb, le-ltb}
use Rattle.exports_forms.proofs.arguments.is_odd.Goals as goal

pub returns-then-r-gt2 : goal.returns-then-r-gt2
returns-then-r-gt2 c = rw (lt-ltb _ _ c.if-r-gt2.true)

pub returns-else-r-gt2 : goal.returns-else-r-gt2
returns-else-r-gt2 c = rw (le-ltb _ _ c.if-r-gt2.false)
