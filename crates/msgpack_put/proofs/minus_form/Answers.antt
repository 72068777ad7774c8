use borrow.Author.Tests.{lt-ltb, le-ltb}
use lib.Dec.{lit≤}
use Rattle.keys.specs.BigEndian.{be_bytes}
use Rattle.msgpack_put.specs.Write.{minus_bytes}
use Rattle.msgpack_put.proofs.minus_form.Goals as goal

pub returns-then-m-lt32 : goal.returns-then-m-lt32
unfolding minus_bytes be_bytes
returns-then-m-lt32 c = (simp (lt-ltb _ _ c.if-m-lt32.true), lit≤ tt)

pub returns-then-m-lt128 : goal.returns-then-m-lt128
unfolding minus_bytes be_bytes
returns-then-m-lt128 c = (simp (le-ltb _ _ c.if-m-lt32.false, lt-ltb _ _ c.if-m-lt128.true), lit≤ tt)

pub returns-then-m-lt32768 : goal.returns-then-m-lt32768
unfolding minus_bytes be_bytes
returns-then-m-lt32768 c = (simp (le-ltb _ _ c.if-m-lt32.false, le-ltb _ _ c.if-m-lt128.false, lt-ltb _ _ c.if-m-lt32768.true), lit≤ tt)

pub returns-then-m-lt2147483648 : goal.returns-then-m-lt2147483648
unfolding minus_bytes be_bytes
returns-then-m-lt2147483648 c = (simp (le-ltb _ _ c.if-m-lt32.false, le-ltb _ _ c.if-m-lt128.false, le-ltb _ _ c.if-m-lt32768.false, lt-ltb _ _ c.if-m-lt2147483648.true), lit≤ tt)

pub returns : goal.returns
unfolding minus_bytes be_bytes
returns c = (simp (le-ltb _ _ c.if-m-lt32.false, le-ltb _ _ c.if-m-lt128.false, le-ltb _ _ c.if-m-lt32768.false, le-ltb _ _ c.if-m-lt2147483648.false), lit≤ tt)
