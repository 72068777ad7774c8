use Rattle.std.specs.Prelude.{Ok}
use mathlib.Core.Path.{ap, ◌∙◌}
use Rattle.measure.proofs.Exits.{exit_same}
use Rattle.encoded.proofs.Inserts.{laid_refused, laid_full, laid_put_lem}
use Rattle.encoded.proofs.bytes_inserted.write_inserted.Goals as goal

pub lacks_room-requires : goal.lacks_room-requires
lacks_room-requires c = c.requires

pub returns-in_err-i : goal.returns-in_err-i
returns-in_err-i c = rw (exit_same _ _ c.from_residual.ensures.1) (laid_refused _ _ _ _ _ _ _ c.in_err-i.was)

pub returns-then-lacks_room : goal.returns-then-lacks_room
returns-then-lacks_room c = laid_full _ _ _ _ _ _ _ _ (c.in_ok-i.was ∙ ap Ok c.in-Entered.is) _ c.lacks_room.ensures c.if-lacks_room.true

pub returns-else-lacks_room : goal.returns-else-lacks_room
returns-else-lacks_room c = c.write_entered.ensures ∙ laid_put_lem _ _ _ _ _ _ _ _ (c.in_ok-i.was ∙ ap Ok c.in-Entered.is) _ c.lacks_room.ensures c.if-lacks_room.false
