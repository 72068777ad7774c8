use mathlib.Core.Path.{◌∙◌}
use Rattle.encoded_unite.proofs.Calling.{either_first, either_next}
use Rattle.encoded_unite.proofs.call_forms.lacks_room.Goals as goal

pub returns-then-lacks_tables : goal.returns-then-lacks_tables
returns-then-lacks_tables c = c.if-lacks_tables.true ∙ either_first _ _ _ c.lacks_tables.ensures c.if-lacks_tables.true

pub returns-else-lacks_tables : goal.returns-else-lacks_tables
returns-else-lacks_tables c = either_next _ _ _ c.lacks_tables.ensures c.if-lacks_tables.false _ c.lacks_rest.ensures
