use mathlib.Core.Path.{◌∙◌}
use Rattle.records.specs.Decode.{Lent, lent_of}
use Rattle.copy.specs.Copy.{room_of}
use Rattle.copy.proofs.Answers.{empty_fits, copy_front}
use Rattle.copy.proofs.canonical_copy.Goals as goal

pub copy_at-requires : goal.copy_at-requires
copy_at-requires c = let a = c.args in let o : Lent = record { segments = a.out_segments.now; views = a.out_views.now; runs = a.out_runs.now; borrows = a.out_borrows.now; ids = a.out_ids.now; pool = a.out_pool.now } in empty_fits (room_of o)

pub shape_of-out_segments : goal.shape_of-out_segments
shape_of-out_segments c = c.copy_at.auto.out_segments

pub shape_of-out_views : goal.shape_of-out_views
shape_of-out_views c = c.copy_at.auto.out_views

pub shape_of-out_runs : goal.shape_of-out_runs
shape_of-out_runs c = c.copy_at.auto.out_runs

pub shape_of-out_borrows : goal.shape_of-out_borrows
shape_of-out_borrows c = c.copy_at.auto.out_borrows

pub shape_of-out_ids : goal.shape_of-out_ids
shape_of-out_ids c = c.copy_at.auto.out_ids

pub shape_of-out_pool : goal.shape_of-out_pool
shape_of-out_pool c = c.copy_at.auto.out_pool

pub returns : goal.returns
returns c = let a = c.args in let x : Lent = lent_of a.tables in let o : Lent = record { segments = a.out_segments.now; views = a.out_views.now; runs = a.out_runs.now; borrows = a.out_borrows.now; ids = a.out_ids.now; pool = a.out_pool.now } in c.copy_at.ensures ∙ copy_front a.lim x a.m o
