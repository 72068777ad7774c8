use mathlib.Core.Path.{◌∙◌}
use Rattle.measure.proofs.Exits.{exit_same}
use Rattle.encoded_borrows.proofs.Clones.{laid_refused, laid_full, laid_put_lem}
use Rattle.encoded_borrows.proofs.clone_bytes.write_laid.Goals as goal

pub lacks_room-requires : goal.lacks_room-requires
lacks_room-requires c = c.requires

pub returns-then-lacks_room : goal.returns-then-lacks_room
returns-then-lacks_room c = laid_full _ _ _ _ _ _ _ _ c.in_ok-row.was _ c.lacks_room.ensures c.if-lacks_room.true

pub returns-in_err-row : goal.returns-in_err-row
returns-in_err-row c = rw (exit_same _ _ c.from_residual.ensures.1) (laid_refused _ _ _ _ _ _ _ _ c.in_err-row.was)

pub returns : goal.returns
returns c = c.write_clone.ensures ∙ laid_put_lem _ _ _ _ _ _ _ _ c.in_ok-row.was _ c.lacks_room.ensures c.if-lacks_room.false
