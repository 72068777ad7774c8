use Rattle.std.proofs.lemmas.Result.{err_from_is_err_and}
use mathlib.Core.Path.{sym, ◌∙◌}
use borrow.Author.Tests.{lt-ltb, le-ltb}
use Rattle.msgpack.specs.Skip.{whole_of}
use Rattle.msgpack.proofs.values_skipped.well_formed.Goals as goal

pub returns-then-p-s : goal.returns-then-p-s
unfolding whole_of
returns-then-p-s c = rw (sym c.skip_value.ensures ∙ c.in_ok-p.was, lt-ltb _ _ c.if-p-s.true)

pub returns-else-p-s : goal.returns-else-p-s
unfolding whole_of
returns-else-p-s c = rw (sym c.skip_value.ensures ∙ c.in_ok-p.was, le-ltb _ _ c.if-p-s.false)

pub returns-in_err-p : goal.returns-in_err-p
unfolding whole_of
returns-in_err-p c = let q = err_from_is_err_and c.from_residual.result c.from_residual.ensures.1 in rw (q.1, q.2) (rw (sym c.skip_value.ensures ∙ c.in_err-p.was))
