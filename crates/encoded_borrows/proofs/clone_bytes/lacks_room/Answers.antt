use Rattle.encoded.proofs.Inserts.{lacks_all, lacks_some}
use Rattle.encoded_borrows.proofs.clone_bytes.lacks_room.Goals as goal

pub clone_fill-requires : goal.clone_fill-requires
clone_fill-requires c = c.requires

pub returns-in-Some : goal.returns-in-Some
returns-in-Some c = lacks_some _ _ _ _ _ c.clone_fill.ensures _ c.in-Some.is _ c.fits_in.ensures

pub returns-in-None : goal.returns-in-None
returns-in-None c = lacks_all _ _ _ _ _ c.clone_fill.ensures c.in-None.is
