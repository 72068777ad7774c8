use mathlib.Core.Path.{sym, ◌∙◌}
use Rattle.encoded_project.proofs.Rooms.{behind_none, behind_left}
use Rattle.encoded_project.proofs.behind_arguments.has_behind.Goals as goal

pub left_of-requires : goal.left_of-requires
left_of-requires c = sym c.fits_in.ensures ∙ c.if-fits_in.true

pub returns-then-fits_in : goal.returns-then-fits_in
returns-then-fits_in c = behind_left _ _ _ _ c.fits_in.ensures _ _ c.if-fits_in.true c.left_of.ensures c.fits_in-then-fits_in.ensures

pub returns-else-fits_in : goal.returns-else-fits_in
returns-else-fits_in c = c.if-fits_in.false ∙ behind_none _ _ _ _ c.fits_in.ensures c.if-fits_in.false
