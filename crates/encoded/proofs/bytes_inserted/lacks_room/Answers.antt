use Rattle.encoded.proofs.Inserts.{lacks_all, lacks_some}
use Rattle.encoded.proofs.bytes_inserted.lacks_room.Goals as goal

pub returns-in-Some : goal.returns-in-Some
returns-in-Some c = lacks_some _ _ _ _ _ c.filled_with.ensures _ c.in-Some.is _ c.fits_in.ensures

pub returns-in-None : goal.returns-in-None
returns-in-None c = lacks_all _ _ _ _ _ c.filled_with.ensures c.in-None.is
