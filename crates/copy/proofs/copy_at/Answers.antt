use Rattle.records.specs.Decode.{Lent, lent_of}
use Rattle.copy.proofs.Answers.{copy_broken, copy_no_room, copy_fits, copy_given}
use Rattle.copy.proofs.copy_at.Goals as goal

pub left_of-left-requires : goal.left_of-left-requires
left_of-left-requires c = c.requires

pub returns-then-no_room : goal.returns-then-no_room
returns-then-no_room c = let a = c.args in let x : Lent = lent_of a.tables in let o : Lent = record { segments = a.out_segments.now; views = a.out_views.now; runs = a.out_runs.now; borrows = a.out_borrows.now; ids = a.out_ids.now; pool = a.out_pool.now } in copy_no_room a.lim a.c x a.m o _ c.measure.ensures _ c.in-Some.is c.requires _ c.left_of-left.ensures _ c.no_room.ensures c.if-no_room.true

pub put_manifest-requires : goal.put_manifest-requires
put_manifest-requires c = let a = c.args in let x : Lent = lent_of a.tables in let o : Lent = record { segments = a.out_segments.now; views = a.out_views.now; runs = a.out_runs.now; borrows = a.out_borrows.now; ids = a.out_ids.now; pool = a.out_pool.now } in copy_fits a.lim a.c x a.m o _ c.measure.ensures _ c.in-Some.is c.requires _ c.left_of-left.ensures _ c.no_room.ensures c.if-no_room.false

pub returns-in-None : goal.returns-in-None
returns-in-None c = let a = c.args in let x : Lent = lent_of a.tables in let o : Lent = record { segments = a.out_segments.now; views = a.out_views.now; runs = a.out_runs.now; borrows = a.out_borrows.now; ids = a.out_ids.now; pool = a.out_pool.now } in copy_broken a.lim a.c x a.m o _ c.measure.ensures c.in-None.is

pub shape_of-out_segments : goal.shape_of-out_segments
shape_of-out_segments c = c.put_manifest.auto.out_segments

pub shape_of-out_views : goal.shape_of-out_views
shape_of-out_views c = c.put_manifest.auto.out_views

pub shape_of-out_runs : goal.shape_of-out_runs
shape_of-out_runs c = c.put_manifest.auto.out_runs

pub shape_of-out_borrows : goal.shape_of-out_borrows
shape_of-out_borrows c = c.put_manifest.auto.out_borrows

pub shape_of-out_ids : goal.shape_of-out_ids
shape_of-out_ids c = c.put_manifest.auto.out_ids

pub shape_of-out_pool : goal.shape_of-out_pool
shape_of-out_pool c = c.put_manifest.auto.out_pool

pub returns-else-no_room : goal.returns-else-no_room
returns-else-no_room c = let a = c.args in let x : Lent = lent_of a.tables in let o : Lent = record { segments = a.out_segments.now; views = a.out_views.now; runs = a.out_runs.now; borrows = a.out_borrows.now; ids = a.out_ids.now; pool = a.out_pool.now } in copy_given a.lim a.c x a.m o _ c.measure.ensures _ c.in-Some.is c.requires _ c.left_of-left.ensures _ c.no_room.ensures _ _ c.if-no_room.false c.put_manifest.ensures.value c.put_manifest.ensures.out_segments_after c.put_manifest.ensures.out_views_after c.put_manifest.ensures.out_runs_after c.put_manifest.ensures.out_borrows_after c.put_manifest.ensures.out_ids_after c.put_manifest.ensures.out_pool_after
