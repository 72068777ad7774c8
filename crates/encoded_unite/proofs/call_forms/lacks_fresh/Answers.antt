use mathlib.Core.Path.{◌∙◌}
use borrow.Author.Tests.{lt-ltb}
use Rattle.encoded_unite.proofs.Calling.{lent_less, lent_left}
use Rattle.encoded_unite.proofs.call_forms.lacks_fresh.Goals as goal

pub returns-then-lent-given : goal.returns-then-lent-given
returns-then-lent-given c = lt-ltb _ _ c.if-lent-given.true ∙ lent_less _ _ _ c.if-lent-given.true

pub returns-else-lent-given : goal.returns-else-lent-given
returns-else-lent-given c = lent_left _ _ _ c.if-lent-given.false
