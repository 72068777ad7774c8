use mathlib.Core.Path.{◌∙◌}
use Rattle.measure.proofs.Exits.{exit_of}
use Rattle.encoded.proofs.Writes.{within_broken, within_full, within_put}
use Rattle.encoded.proofs.bytes_read.write_within.Goals as goal

pub returns-in_err-f : goal.returns-in_err-f
returns-in_err-f c = rw (exit_of _ _ _ _ c.in_err-f.ensures.value c.from_residual.ensures.1) (within_broken _ _ _ _ c.measure.ensures _ _ c.in_err-f.ensures.ok_part)

pub returns-then-no_room : goal.returns-then-no_room
returns-then-no_room c = within_full _ _ _ _ c.measure.ensures _ _ _ c.in_ok-f.ensures.ok_part _ c.no_room.ensures c.if-no_room.true

pub returns : goal.returns
returns c = c.write_judged.ensures ∙ within_put _ _ _ _ c.measure.ensures _ _ _ c.in_ok-f.ensures.ok_part _ c.no_room.ensures c.if-no_room.false
