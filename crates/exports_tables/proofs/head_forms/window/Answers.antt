use Rattle.exports_tables.proofs.head_forms.window.Goals as goal

pub returns : goal.returns
returns c = rw (c.ix.ensures, c.ix-2.ensures)
