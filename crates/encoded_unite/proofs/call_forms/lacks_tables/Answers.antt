use mathlib.Core.Path.{ap, ◌∙◌}
use mathlib.Core.Bool.{not}
use Rattle.encoded_unite.proofs.Calling.{tables_work, tables_all}
use Rattle.encoded_unite.proofs.call_forms.lacks_tables.Goals as goal

pub returns-then-not-fits_in : goal.returns-then-not-fits_in
returns-then-not-fits_in c = ap not c.if-not-fits_in.true ∙ tables_work _ _ _ _ _ c.fits_in.ensures c.if-not-fits_in.true

pub returns-else-not-fits_in : goal.returns-else-not-fits_in
returns-else-not-fits_in c = tables_all _ _ _ _ _ c.fits_in.ensures c.if-not-fits_in.false _ c.has_all.ensures
