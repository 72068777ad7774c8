use mathlib.Core.Path.{ap}
use mathlib.Core.Bool.{not}
use Rattle.records.specs.Decode.{Lent, lent_of}
use Rattle.borrows.proofs.ClonedAnswers.{given_no_final, given_over, given_no_room, given_room, given_few, given_fresh, given_done}
use Rattle.borrows.proofs.clone_answers.cloned_judged.Goals as goal

pub returns-then-lacks_final : goal.returns-then-lacks_final
returns-then-lacks_final c = let a = c.args in let l : Lent = lent_of a.tables in let o : Lent = record { segments = a.out_segments.now; views = a.out_views.now; runs = a.out_runs.now; borrows = a.out_borrows.now; ids = a.out_ids.now; pool = a.out_pool.now } in given_no_final a.lim l a.m a.path.now a.checkpoint a.fresh.now o _ c.lacks_final.ensures c.if-lacks_final.true

pub clone_fill-requires : goal.clone_fill-requires
clone_fill-requires c = c.requires

pub returns-then-not-fits_in : goal.returns-then-not-fits_in
returns-then-not-fits_in c = let a = c.args in let l : Lent = lent_of a.tables in let o : Lent = record { segments = a.out_segments.now; views = a.out_views.now; runs = a.out_runs.now; borrows = a.out_borrows.now; ids = a.out_ids.now; pool = a.out_pool.now } in given_no_room a.lim l a.m a.path.now a.checkpoint a.fresh.now o _ c.lacks_final.ensures c.if-lacks_final.false _ c.clone_fill.ensures _ c.in-Some.is _ c.fits_in.ensures (ap not c.if-not-fits_in.true)

pub returns-then-fresh-f : goal.returns-then-fresh-f
returns-then-fresh-f c = let a = c.args in let l : Lent = lent_of a.tables in let o : Lent = record { segments = a.out_segments.now; views = a.out_views.now; runs = a.out_runs.now; borrows = a.out_borrows.now; ids = a.out_ids.now; pool = a.out_pool.now } in given_few a.lim l a.m a.path.now a.checkpoint a.fresh.now o _ c.lacks_final.ensures c.if-lacks_final.false _ c.clone_fill.ensures _ c.in-Some.is _ c.fits_in.ensures (ap not c.if-not-fits_in.false) c.if-fresh-f.true

pub bare_fill-c-requires : goal.bare_fill-c-requires
bare_fill-c-requires c = c.requires

pub put_clone-requires : goal.put_clone-requires
put_clone-requires c = let a = c.args in let l : Lent = lent_of a.tables in let o : Lent = record { segments = a.out_segments.now; views = a.out_views.now; runs = a.out_runs.now; borrows = a.out_borrows.now; ids = a.out_ids.now; pool = a.out_pool.now } in record { c_value = c.bare_fill-c.ensures; borrows_in_bounds = given_fresh a.lim l a.m a.path.now a.checkpoint a.fresh.now o _ c.lacks_final.ensures c.if-lacks_final.false _ c.clone_fill.ensures _ c.in-Some.is _ c.fits_in.ensures (ap not c.if-not-fits_in.false) c.if-fresh-f.false; out_pool_value = given_room a.lim l a.m a.path.now a.checkpoint a.fresh.now o _ c.lacks_final.ensures c.if-lacks_final.false _ c.clone_fill.ensures _ c.in-Some.is _ c.fits_in.ensures (ap not c.if-not-fits_in.false) }

pub returns-in-None : goal.returns-in-None
returns-in-None c = let a = c.args in let l : Lent = lent_of a.tables in let o : Lent = record { segments = a.out_segments.now; views = a.out_views.now; runs = a.out_runs.now; borrows = a.out_borrows.now; ids = a.out_ids.now; pool = a.out_pool.now } in given_over a.lim l a.m a.path.now a.checkpoint a.fresh.now o _ c.lacks_final.ensures c.if-lacks_final.false _ c.clone_fill.ensures c.in-None.is

pub returns-else-fresh-f : goal.returns-else-fresh-f
returns-else-fresh-f c = let a = c.args in let l : Lent = lent_of a.tables in let o : Lent = record { segments = a.out_segments.now; views = a.out_views.now; runs = a.out_runs.now; borrows = a.out_borrows.now; ids = a.out_ids.now; pool = a.out_pool.now } in given_done a.lim l a.m a.path.now a.checkpoint a.fresh.now o _ c.lacks_final.ensures c.if-lacks_final.false _ c.clone_fill.ensures _ c.in-Some.is _ c.fits_in.ensures (ap not c.if-not-fits_in.false) c.if-fresh-f.false _ _ _ _ _ _ _ c.put_clone.ensures.value c.put_clone.ensures.out_segments_after c.put_clone.ensures.out_views_after c.put_clone.ensures.out_runs_after c.put_clone.ensures.out_borrows_after c.put_clone.ensures.out_ids_after c.put_clone.ensures.out_pool_after
