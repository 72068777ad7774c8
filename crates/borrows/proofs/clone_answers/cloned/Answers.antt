use mathlib.Core.List.{[]}
use Rattle.records.specs.Decode.{Lent, lent_of}
use Rattle.borrows.specs.Clone.{uuids_of}
use Rattle.borrows.proofs.OwnedAnswers.{judged_so}
use Rattle.borrows.proofs.ClonedAnswers.{cloned_over, cloned_broken, cloned_lawful}
use Rattle.borrows.proofs.clone_answers.cloned.Goals as goal

pub returns-then-lim-path : goal.returns-then-lim-path
returns-then-lim-path c = let a = c.args in let l : Lent = lent_of a.tables in let o : Lent = record { segments = a.out_segments.now; views = a.out_views.now; runs = a.out_runs.now; borrows = a.out_borrows.now; ids = a.out_ids.now; pool = a.out_pool.now } in cloned_over a.lim l a.m a.path.now a.checkpoint (uuids_of a.fresh.now) o c.if-lim-path.true

pub cloned_judged-requires : goal.cloned_judged-requires
cloned_judged-requires c = let a = c.args in let l : Lent = lent_of a.tables in let o : Lent = record { segments = a.out_segments.now; views = a.out_views.now; runs = a.out_runs.now; borrows = a.out_borrows.now; ids = a.out_ids.now; pool = a.out_pool.now } in judged_so a.lim l a.m [] _ c.lawful.ensures c.in-Ok.is

pub returns-in-Ok : goal.returns-in-Ok
returns-in-Ok c = let a = c.args in let l : Lent = lent_of a.tables in let o : Lent = record { segments = a.out_segments.now; views = a.out_views.now; runs = a.out_runs.now; borrows = a.out_borrows.now; ids = a.out_ids.now; pool = a.out_pool.now } in cloned_lawful a.lim l a.m a.path.now a.checkpoint (uuids_of a.fresh.now) o c.if-lim-path.false _ c.lawful.ensures _ c.in-Ok.is c.cloned_judged.ensures

pub returns-in-Err : goal.returns-in-Err
returns-in-Err c = let a = c.args in let l : Lent = lent_of a.tables in let o : Lent = record { segments = a.out_segments.now; views = a.out_views.now; runs = a.out_runs.now; borrows = a.out_borrows.now; ids = a.out_ids.now; pool = a.out_pool.now } in cloned_broken a.lim l a.m a.path.now a.checkpoint (uuids_of a.fresh.now) o c.if-lim-path.false _ c.lawful.ensures _ c.in-Err.is
