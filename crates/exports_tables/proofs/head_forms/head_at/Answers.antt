use mir.Facts.{to_z-of_z}
use Rattle.exports_tables.specs.Head.{head_at}
use Rattle.exports_tables.proofs.head_forms.head_at.Goals as goal

pub returns : goal.returns
unfolding head_at
returns c = rw (c.name_of-segment_extractor_name.ensures, c.window-external_dbs.ensures, c.head_segments-segments.ensures, c.segment_at-s.ensures, to_z-of_z c.ranges.tick)
