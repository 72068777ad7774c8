use mathlib.Core.Path.{ap}
use mir.Facts.{to_z-of_z}
use Rattle.exports_forms.specs.Replies.{wrote_reply}
use Rattle.exports_tables.proofs.tables_write.Goals as goal

pub returns : goal.returns
returns c = rw c.written_answer.ensures.wrote (ap wrote_reply (rw (c.limits_01-lim.ensures, c.head_at-m.ensures, to_z-of_z c.ranges.tick) at c.write-w.ensures))
