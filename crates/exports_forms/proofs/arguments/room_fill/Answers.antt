use Rattle.exports_forms.proofs.arguments.room_fill.Goals as goal

pub returns : goal.returns
returns c = rw (c.ix.ensures, c.ix-2.ensures, c.ix-3.ensures, c.ix-4.ensures, c.ix-5.ensures, c.ix-6.ensures)
