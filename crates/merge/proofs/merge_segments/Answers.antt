use mathlib.Core.Path.{sym, ◌∙◌}
use Rattle.records.specs.Decode.{Lent, manifest_in, lent_of}
use Rattle.merge.specs.Answer.{LentList, given_by, merge_of}
use Rattle.merge.proofs.Giving.{first_broken_lem, second_broken, both_lawful}
use Rattle.merge.proofs.merge_segments.Goals as goal

pub merge_judged-requires : goal.merge_judged-requires
merge_judged-requires c = (sym c.lawful-a.ensures ∙ c.in-Ok.is, sym c.lawful-b.ensures ∙ c.in-Ok-b.is)

pub returns-in-Err : goal.returns-in-Err
unfolding merge_of
returns-in-Err c = let a = c.args in let l : Lent = lent_of a.tables in let o : LentList = record { segments = a.out_segments.now; views = a.out_views.now; runs = a.out_runs.now; pool = a.out_pool.now } in let g = given_by a.side a.lim (manifest_in l a.writer).segments (manifest_in l a.compactor).segments o in first_broken_lem a.lim l a.writer a.compactor g o _ c.lawful-a.ensures _ c.in-Err.is

pub returns-in-Err-b : goal.returns-in-Err-b
unfolding merge_of
returns-in-Err-b c = let a = c.args in let l : Lent = lent_of a.tables in let o : LentList = record { segments = a.out_segments.now; views = a.out_views.now; runs = a.out_runs.now; pool = a.out_pool.now } in let g = given_by a.side a.lim (manifest_in l a.writer).segments (manifest_in l a.compactor).segments o in second_broken a.lim l a.writer a.compactor g o _ c.lawful-a.ensures _ c.in-Ok.is c.lawful-b.ensures _ c.in-Err-b.is

pub returns-in-Ok-b : goal.returns-in-Ok-b
unfolding merge_of
returns-in-Ok-b c = let a = c.args in let l : Lent = lent_of a.tables in let o : LentList = record { segments = a.out_segments.now; views = a.out_views.now; runs = a.out_runs.now; pool = a.out_pool.now } in let g = given_by a.side a.lim (manifest_in l a.writer).segments (manifest_in l a.compactor).segments o in both_lawful a.lim l a.writer a.compactor g o _ c.lawful-a.ensures _ c.in-Ok.is c.lawful-b.ensures _ c.in-Ok-b.is c.merge_judged.ensures
