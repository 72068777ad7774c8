use Rattle.exports_tables.proofs.head_forms.tree_row.Goals as goal

pub returns : goal.returns
returns c = rw c.name_place.ensures
