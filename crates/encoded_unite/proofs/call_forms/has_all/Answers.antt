use Rattle.encoded_unite.proofs.Calling.{eight_none, eight_left}
use Rattle.encoded_unite.proofs.call_forms.has_all.Goals as goal

pub returns-then-all-n : goal.returns-then-all-n
returns-then-all-n c = eight_none _ _ _ c.if-all-n.true

pub returns : goal.returns
returns c = eight_left _ _ _ c.if-all-n.false _ c.fits_in.ensures
