use Rattle.std.proofs.lemmas.Result.{err_from_is_err_and}
use mathlib.Core.Path.{sym, ◌∙◌}
use native.Mathlib.Omega.{arith}
use borrow.Author.Tests.{eq-eqb, ne_eqb}
use lib.Dec.{lit≤}
use Rattle.msgpack.specs.Read.{id_at}
use Rattle.msgpack.proofs.Told.{bin_within}
use Rattle.msgpack.proofs.values_read.id_at.Goals as goal

pub number-requires : goal.number-requires
unfolding id_at
number-requires c = let h = bin_within _ _ _ _ _ (sym c.bin_at.ensures ∙ c.in_ok-from.was) in (omega arith, lit≤ tt)

pub overflow_add-from : goal.overflow_add-from
unfolding id_at
overflow_add-from c = let h = bin_within _ _ _ _ _ (sym c.bin_at.ensures ∙ c.in_ok-from.was) in omega arith

pub number-requires-then-n-eq16 : goal.number-requires-then-n-eq16
unfolding id_at
number-requires-then-n-eq16 c = let h = bin_within _ _ _ _ _ (sym c.bin_at.ensures ∙ c.in_ok-from.was) in (omega arith, lit≤ tt)

pub returns-then-n-eq16 : goal.returns-then-n-eq16
unfolding id_at
returns-then-n-eq16 c = rw (sym c.bin_at.ensures ∙ c.in_ok-from.was, eq-eqb _ _ c.if-n-eq16.true, c.number.ensures.0, c.number-then-n-eq16.ensures.0)

pub returns-else-n-eq16 : goal.returns-else-n-eq16
unfolding id_at
returns-else-n-eq16 c = rw (sym c.bin_at.ensures ∙ c.in_ok-from.was, ne_eqb _ _ c.if-n-eq16.false)

pub returns-in_err-from : goal.returns-in_err-from
unfolding id_at
returns-in_err-from c = let q = err_from_is_err_and c.from_residual.result c.from_residual.ensures.1 in rw (q.1, q.2) (rw (sym c.bin_at.ensures ∙ c.in_err-from.was))
