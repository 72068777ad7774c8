use borrow.Author.Tests.{lt-ltb, le-ltb}
use lib.Dec.{lit≤}
use Rattle.keys.specs.BigEndian.{be_bytes}
use Rattle.msgpack_put.specs.Write.{bin_head}
use Rattle.msgpack_put.proofs.bin_form.Goals as goal

pub returns-then-n-lt256 : goal.returns-then-n-lt256
unfolding bin_head be_bytes
returns-then-n-lt256 c = (simp (lt-ltb _ _ c.if-n-lt256.true), lit≤ tt)

pub returns-then-n-lt65536 : goal.returns-then-n-lt65536
unfolding bin_head be_bytes
returns-then-n-lt65536 c = (simp (le-ltb _ _ c.if-n-lt256.false, lt-ltb _ _ c.if-n-lt65536.true), lit≤ tt)

pub returns : goal.returns
unfolding bin_head be_bytes
returns c = (simp (le-ltb _ _ c.if-n-lt256.false, le-ltb _ _ c.if-n-lt65536.false), lit≤ tt)
