use mathlib.Core.Path.{sym}
use native.Mathlib.Omega.{arith}
use Rattle.msgpack.proofs.Skips.{many_end}
use Rattle.msgpack.proofs.values_skipped.rest_at.Goals as goal

pub returns-then-n-named : goal.returns-then-n-named
returns-then-n-named c = sym (many_end _ _ _ (omega arith))
