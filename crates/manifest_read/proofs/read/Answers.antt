use mathlib.Core.Path.{◌∙◌}
use Rattle.records.specs.Decode.{Lent}
use Rattle.copy.specs.Copy.{room_of}
use Rattle.copy.proofs.Answers.{empty_fits}
use Rattle.manifest_read.proofs.Answers.{read_front}
use Rattle.manifest_read.proofs.read.Goals as goal

pub read_at-requires : goal.read_at-requires
read_at-requires c = let a = c.args in let o : Lent = record { segments = a.out_segments.now; views = a.out_views.now; runs = a.out_runs.now; borrows = a.out_borrows.now; ids = a.out_ids.now; pool = a.out_pool.now } in empty_fits (room_of o)

pub returns : goal.returns
returns c = let a = c.args in let w : Lent = record { segments = a.segments.now; views = a.views.now; runs = a.runs.now; borrows = a.borrows.now; ids = a.ids.now; pool = a.s.now } in let o : Lent = record { segments = a.out_segments.now; views = a.out_views.now; runs = a.out_runs.now; borrows = a.out_borrows.now; ids = a.out_ids.now; pool = a.out_pool.now } in c.read_at.ensures ∙ read_front a.lim a.s.now w o
