use native.Mathlib.Omega.{arith}
use borrow.Author.Tests.{eq-eqb, ne_eqb}
use Rattle.msgpack.proofs.first_bytes.argument.Goals as goal

pub returns-then-w-eq0 : goal.returns-then-w-eq0
returns-then-w-eq0 c = (simp (eq-eqb _ _ c.if-w-eq0.true), omega arith)

pub returns-else-w-eq0 : goal.returns-else-w-eq0
returns-else-w-eq0 c = (simp (ne_eqb _ _ c.if-w-eq0.false) c.number.ensures.0, λ h. c.number.ensures.1)
