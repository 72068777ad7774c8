use mathlib.Core.Path.{ap}
use Rattle.exports_tables.specs.Calls.{read_reply}
use Rattle.exports_tables.proofs.tables_read.Goals as goal

pub returns : goal.returns
returns c = rw c.copied_answer.ensures (ap read_reply (rw c.limits_01-lim.ensures at c.read-x.ensures))
