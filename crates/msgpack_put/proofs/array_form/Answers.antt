use borrow.Author.Tests.{lt-ltb, le-ltb}
use lib.Dec.{lit≤}
use Rattle.keys.specs.BigEndian.{be_bytes}
use Rattle.msgpack_put.specs.Write.{array_bytes}
use Rattle.msgpack_put.proofs.array_form.Goals as goal

pub returns-then-n-lt16 : goal.returns-then-n-lt16
unfolding array_bytes be_bytes
returns-then-n-lt16 c = (simp (lt-ltb _ _ c.if-n-lt16.true), lit≤ tt)

pub returns-then-n-lt65536 : goal.returns-then-n-lt65536
unfolding array_bytes be_bytes
returns-then-n-lt65536 c = (simp (le-ltb _ _ c.if-n-lt16.false, lt-ltb _ _ c.if-n-lt65536.true), lit≤ tt)

pub returns : goal.returns
unfolding array_bytes be_bytes
returns c = (simp (le-ltb _ _ c.if-n-lt16.false, le-ltb _ _ c.if-n-lt65536.false), lit≤ tt)
