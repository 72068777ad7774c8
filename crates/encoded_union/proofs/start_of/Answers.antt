use mathlib.Core.Path.{refl}
use Rattle.encoded_union.proofs.Gather.{start_later}
use Rattle.encoded_union.proofs.start_of.Goals as goal

pub returns : goal.returns
returns c = start_later _ _ _ _ c.if-k-eq0.false refl c.ix.ensures
