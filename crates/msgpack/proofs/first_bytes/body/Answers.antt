use borrow.Author.Tests.{le-leb, lt-leb}
use Rattle.msgpack.proofs.first_bytes.body.Goals as goal

pub returns-then-len-left : goal.returns-then-len-left
returns-then-len-left c = rw (le-leb _ _ c.if-len-left.true)

pub returns-else-len-left : goal.returns-else-len-left
returns-else-len-left c = rw (lt-leb _ _ c.if-len-left.false)
