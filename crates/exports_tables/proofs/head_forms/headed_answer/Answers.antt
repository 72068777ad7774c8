use mir.Facts.{to_z-of_z}
use mir.Syntax.{w64}
use Rattle.exports_tables.proofs.head_forms.headed_answer.Goals as goal

pub returns : goal.returns
returns c = rw (c.rest_words.ensures, c.segment_words.ensures, c.tree_row.ensures, to_z-of_z {w = w64} {z = c.args.m.last_l0_clock_tick} (record { sfits = c.struct_told-1.given.1.1.1.1.1.1.0.1 }))
