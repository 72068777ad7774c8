use Rattle.records.proofs.Codes.{optional_rest}
use mathlib.Core.Path.{refl}
use Rattle.exports_tables.proofs.head_forms.name_of.Goals as goal

pub returns-in_default : goal.returns-in_default
returns-in_default c = optional_rest _ _ _ _ _ c.in_default.in_default-own.rest.1 refl
