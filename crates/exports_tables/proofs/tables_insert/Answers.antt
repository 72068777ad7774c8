use mathlib.Core.Path.{ap}
use mir.Facts.{to_z-of_z}
use Rattle.exports_tables.specs.Calls.{insert_reply}
use Rattle.exports_tables.proofs.tables_insert.Goals as goal

pub returns : goal.returns
returns c = rw c.inserted_answer.ensures (ap insert_reply (rw (c.limits_01-lim.ensures, c.head_at-m.ensures, to_z-of_z c.ranges.tick) at c.maybe_insert_tree-x.ensures))
